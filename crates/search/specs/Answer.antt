-- What a search answers, and what it leaves.
use Rattle.std.specs.Prelude.{◌≡◌, ℕ, ◌*◌, ◌≤◌, List, [], length, drop, Some, None, Result, MatchResult}
use Rattle.refusals.specs.declared.refusal.Refusal.{Refusal}
use Rattle.queue.specs.declared.interface.Queue.{Ghosts}
use Rattle.timetable.specs.declared.label.Label.{Label}
use Rattle.timetable.specs.Table.{Table}
use Rattle.timetable.specs.Labels.{ranks, places}
use Rattle.timetable.specs.Rows.{Rows}
use Rattle.turns.specs.Running.{memory_needed, labels_in}
use Rattle.search.specs.declared.found.Found.{Found}
use Rattle.search.specs.Sizes.{search_refusal}

-- an accepted search: the memory begins with the rows, and the entries after them are as they were
pub record Searched (t : Table) (s : ℕ) (before memory : List Label) (f : Found) : Type 0 where
  pub rows : Rows t s memory
  pub same_length : length memory ≡ length before
  pub later : drop (memory_needed t s) memory ≡ drop (memory_needed t s) before
  pub departures : f.departures ≡ ranks t s
  pub labels : f.labels ≡ labels_in t s memory
  pub few : f.labels ≤ ranks t s * places t

-- a search from s over t, with these capacities of the queues: refused, it leaves the memory as it was
abbrev pub SearchAnswered : Table → ℕ → (board labels : ℕ) → List Label → Result Found Refusal → List Label → Type 0
SearchAnswered t s board labels before r memory =
    MatchResult r
    (λ f. (search_refusal t s board labels (length before) ≡ None) × Searched t s before memory f)
    (λ e. (search_refusal t s board labels (length before) ≡ Some e) × (memory ≡ before))

module _ {X Q : Type 0} (queue : Ghosts Q X) where
  -- a queue that was q is in order, empty, and as large as it was
  pub record Emptied (q q' : Q) : Type 0 where
    pub in_order : queue.ordered q'
    pub none : queue.bag q' ≡ []
    pub same_room : queue.room q' ≡ queue.room q

  -- what was lent as a queue, where the search is refused as it was, else emptied
  abbrev pub Returned : {F : Type 0} → Result F Refusal → Q → Q → Type 0
  Returned r q q' = MatchResult r (λ _. Emptied q q') (λ _. q' ≡ q)
