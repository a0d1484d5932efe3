-- The theorems about the turns of a search, of any lawful timetable.
use Rattle.std.specs.Prelude.{◌≡◌, ℕ, ◌+◌, ◌*◌, ◌<◌, ◌≤◌, true, false, List, [], ◌∷◌, map, length, slice_set}
use Rattle.std.specs.List.{AllByRecursion}
use Rattle.timetable.specs.declared.label.Label.{Label}
use Rattle.timetable.specs.Table.{Table, Lawful}
use Rattle.timetable.specs.Labels.{ranks, places}
use Rattle.timetable.specs.Rows.{width, Rows, entry as cell}
use Rattle.entries.specs.declared.label.LabelEntry.{LabelEntry}
use Rattle.entries.specs.Kinds.{label_ahead}
use Rattle.journeys.specs.Queued.{leads}
use Rattle.turns.specs.Seen.{seen, waiting}
use Rattle.turns.specs.Puts.{put_all}
use Rattle.turns.specs.Cells.{Settled}
use Rattle.turns.specs.Running.{queue_needed, Turn, turns_left}
use Rattle.turns.specs.Opening.{Opening}

-- the first of the queue is x: no other is ahead of it
abbrev pub First : LabelEntry → List LabelEntry → Type 0
First x rest = AllByRecursion (λ y. label_ahead y x ≡ false) rest

-- the memory with the label of x
abbrev pub with_label : Table → List Label → LabelEntry → List Label
with_label t memory x = slice_set memory (x.rank.0 * width t + (1 + x.place.0)) (record { minute = x.minute; origin = x.origin.0 })

-- the queue with what x leads to
abbrev pub with_leads : Table → LabelEntry → List LabelEntry → List LabelEntry
with_leads t x rest = put_all label_ahead (map waiting (leads t (seen x))) rest

-- every first departure has its row: the search is between two turns
abbrev pub OpeningIsTurn : Type 0
OpeningIsTurn = (t : Table) → Lawful t → (s room : ℕ) (before memory : List Label) (queue : List LabelEntry) (rank : ℕ) →
    Opening t s before memory [] queue rank → queue_needed t s ≤ room → Turn t s room before memory queue 0

-- an entry whose rank or a higher one has a label at its place may be dropped
abbrev pub DropKeeps : Type 0
DropKeeps = (t : Table) → Lawful t → (s room : ℕ) (before memory : List Label) (x : LabelEntry) (rest : List LabelEntry) (written : ℕ) →
    Turn t s room before memory (x ∷ rest) written → First x rest → Settled (ranks t s) (cell t memory) x.rank.0 x.place.0 true →
    Turn t s room before memory rest written

-- any other is written, and what it leads to is put, for which there is room; that brings the end nearer
pub record Settling (t : Table) (s room : ℕ) (before memory : List Label) (x : LabelEntry) (rest : List LabelEntry) (written : ℕ) : Type 0 where
  pub keeps : Turn t s room before (with_label t memory x) (with_leads t x rest) (written + 1)
  pub lowers : turns_left t s (with_leads t x rest) (written + 1) < turns_left t s (x ∷ rest) written
  pub has_room : length (leads t (seen x)) + length rest ≤ room

abbrev pub SettleKeeps : Type 0
SettleKeeps = (t : Table) → Lawful t → (s room : ℕ) (before memory : List Label) (x : LabelEntry) (rest : List LabelEntry) (written : ℕ) →
    Turn t s room before memory (x ∷ rest) written → First x rest → Settled (ranks t s) (cell t memory) x.rank.0 x.place.0 false →
    Settling t s room before memory x rest written

-- where the queue is empty the memory has the rows
abbrev pub EndGivesRows : Type 0
EndGivesRows = (t : Table) → Lawful t → (s room : ℕ) (before memory : List Label) (written : ℕ) →
    Turn t s room before memory [] written → Rows t s memory

-- no more labels are written than there are ranks and places
abbrev pub FewWritten : Type 0
FewWritten = (t : Table) (s room : ℕ) (before memory : List Label) (queue : List LabelEntry) (written : ℕ) →
    Turn t s room before memory queue written → written ≤ ranks t s * places t
