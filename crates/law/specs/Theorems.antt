-- What holds of books, planners and label memories.
use Rattle.std.specs.Prelude.{◌≡◌, ℕ, ◌*◌, ◌≤◌, List, ◌++◌, length, None, Err, Option}
use Rattle.refusals.specs.declared.refusal.Refusal.TheVariants.{ForeignRows}
use Rattle.timetable.specs.declared.label.Label.{Label}
use Rattle.timetable.specs.declared.leg.Leg.{Leg}
use Rattle.timetable.specs.declared.pair.Pair.{Pair}
use Rattle.timetable.specs.Table.{Table}
use Rattle.timetable.specs.Labels.{ranks}
use Rattle.timetable.specs.Rows.{Rows, width}
use Rattle.notices.specs.declared.notice.Notice.{Notice}
use Rattle.notices.specs.Slots.{found, used}
use Rattle.questions.specs.declared.standing.Standing.{Standing}
use Rattle.law.specs.Book.{Book, fresh}
use Rattle.law.specs.Lines.{ArriveLine, ProfileLine, JourneyLine}
use Rattle.law.specs.Agreement.{Agrees}

-- slots in which no notice stands agree with the fresh book, whatever the memory holds
abbrev pub FreshAgrees : Type 0
FreshAgrees = (t : Table) (slots : List (Option Notice)) (memory : List Label) → ((z : ℕ) → found slots z ≡ None) → used slots ≡ 0 → Agrees t fresh slots None memory

-- two books that agree with one planner and memory say the same
abbrev pub OneBook : Type 0
OneBook = (t : Table) (b b' : Book) (slots : List (Option Notice)) (standing : Option Standing) (memory : List Label) → Agrees t b slots standing memory → Agrees t b' slots standing memory
    → ((z : ℕ) → b.says z ≡ b'.says z) × (b.source ≡ b'.source)

-- the front of a memory has the memory's rows, where it is long enough for them; and the memory has those of its front
abbrev pub RowsInFront : Type 0
RowsInFront = (t : Table) (s : ℕ) (memory rest : List Label) → (ranks t s * width t ≤ length memory → Rows t s (memory ++ rest) → Rows t s memory) × (Rows t s memory → Rows t s (memory ++ rest))

-- by the law no question is refused for rows that no search wrote
abbrev pub NeverForeign : Type 0
NeverForeign = (t : Table) (b : Book) (memory : List Label) (v n i : ℕ)
    → (ArriveLine t b memory v n (Err (ForeignRows i)) → ⊥)
    × ((out out' : List Pair) → ProfileLine t b memory v out (Err (ForeignRows i)) out' → ⊥)
    × ((out out' : List Leg) → JourneyLine t b memory v n out (Err (ForeignRows i)) out' → ⊥)
