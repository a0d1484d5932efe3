-- What holds between the turns of a search.
use Rattle.std.specs.Prelude.{◌≡◌, ℕ, ◌+◌, ◌-◌, ◌*◌, ◌<◌, ◌≤◌, ◌⊎◌, List, map, length, drop}
use Rattle.timetable.specs.declared.label.Label.{Label}
use Rattle.timetable.specs.Table.{Table, at, connections}
use Rattle.timetable.specs.Labels.{ranks, rank_connection, places}
use Rattle.timetable.specs.Rows.{blank, width, head, entry as cell}
use Rattle.entries.specs.declared.label.LabelEntry.{LabelEntry}
use Rattle.journeys.specs.Search.{Entry, entry, Mem, State}
use Rattle.journeys.specs.Theorems.{ways}
use Rattle.journeys.specs.Queued.{ever_put}
use Rattle.turns.specs.Seen.{seen}
use Rattle.turns.specs.Counts.{counted}

-- the capacity of the label queue and the length of the label memory that a search needs
abbrev pub queue_needed : Table → ℕ → ℕ
queue_needed t s = ranks t s * (3 * connections t + 1)

abbrev pub memory_needed : Table → ℕ → ℕ
memory_needed t s = ranks t s * width t

-- how many labels the rows have
abbrev pub labels_in : Table → ℕ → List Label → ℕ
labels_in t s memory = counted (ranks t s) (places t) (cell t memory)

-- the first entry of row i
abbrev pub first_label : Table → ℕ → ℕ → Label
first_label t s i = record { minute = (at t (rank_connection t s i)).departure; origin = rank_connection t s i }

-- the entries of m rows with n places that are not blank are the settled labels
pub record Holds (m n : ℕ) (cells : ℕ → ℕ → Label) (done : List Entry) : Type 0 where
  pub there : (e : Entry) → Mem e done → cells e.rank e.place ≡ record { minute = e.minute; origin = e.origin }
  pub back : (i p : ℕ) → i < m → p < n → (cells i p ≡ blank) ⊎ Mem (entry (cells i p).minute i p (cells i p).origin) done

-- between two turns: the label queue's capacity, the memory as it was and as it is, the queue, and how many labels are
-- written
pub record Turn (t : Table) (s room : ℕ) (before memory : List Label) (queue : List LabelEntry) (written : ℕ) : Type 0 where
  pub done : List Entry
  pub state : State (ways t s) done (map seen queue)
  pub holds : Holds (ranks t s) (places t) (cell t memory) done
  pub count : written ≡ labels_in t s memory
  -- the queue has no more than was ever put
  pub put : length queue ≤ ever_put t s done
  pub fits : queue_needed t s ≤ room
  pub long : memory_needed t s ≤ length memory
  pub heads : (i : ℕ) → i < ranks t s → head t memory i ≡ first_label t s i
  pub same_length : length memory ≡ length before
  pub later : drop (memory_needed t s) memory ≡ drop (memory_needed t s) before

-- what falls with every turn: each label that is not yet written can put 3 × connections entries at most
abbrev pub turns_left : Table → ℕ → List LabelEntry → ℕ → ℕ
turns_left t s queue written = (ranks t s * places t - written) * (3 * connections t + 1) + length queue
