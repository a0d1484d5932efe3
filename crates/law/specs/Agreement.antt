-- When a planner and a label memory agree with a book, and the law of each call.
use Rattle.std.specs.Prelude.{◌≡◌, ℕ, List, ◌++◌, Some, None, Option, Result}
use Rattle.refusals.specs.declared.refusal.Refusal.{Refusal}
use Rattle.timetable.specs.declared.label.Label.{Label}
use Rattle.timetable.specs.declared.leg.Leg.{Leg}
use Rattle.timetable.specs.declared.pair.Pair.{Pair}
use Rattle.timetable.specs.declared.report.Report.{Report}
use Rattle.timetable.specs.Table.{Table}
use Rattle.timetable.specs.Labels.{ranks}
use Rattle.timetable.specs.Rows.{Rows}
use Rattle.notices.specs.declared.notice.Notice.{Notice}
use Rattle.notices.specs.Slots.{found, used}
use Rattle.search.specs.declared.found.Found.{Found}
use Rattle.questions.specs.declared.standing.Standing.{Standing}
use Rattle.law.specs.Book.{Book, fresh, in_force, standing_notices, reported_as, searched, if_accepted}
use Rattle.law.specs.Lines.{ReportLine, LiftLine, SearchLine, ArriveLine, ProfileLine, JourneyLine}

-- the standing search is that from the book's source, and its rows are in the memory
abbrev pub Stands : Table → Option ℕ → Option Standing → List Label → Type 0
Stands t None None memory = Unit {0}
Stands t None (Some x) memory = ⊥
Stands t (Some s) None memory = ⊥
Stands t (Some s) (Some x) memory = (x.source.0 ≡ s) × (x.rows ≡ ranks t s) × Rows t s memory

-- the slots say of each train what the book says, and a search stands for the book's source
pub record Agrees (t : Table) (b : Book) (slots : List (Option Notice)) (standing : Option Standing) (memory : List Label) : Type 0 where
  pub says : (z : ℕ) → found slots z ≡ b.says z
  pub count : used slots ≡ standing_notices t b
  pub search : Stands (in_force t b) b.source standing memory

-- ---- the law of one call: for every book that agrees before it, the law's line, and agreement after it with the book after
-- it. What is lent to a call may be the front of the label memory, with the rest behind it.

abbrev pub NewLaw : Table → List (Option Notice) → Option Standing → Type 0
NewLaw t slots standing = (memory : List Label) → Agrees t fresh slots standing memory

abbrev pub ReportLaw : Table → ℕ → Option Report → List (Option Notice) → Option Standing → Result (Unit {0}) Refusal → List (Option Notice) → Option Standing → Type 0
ReportLaw t z x slots standing r slots' standing' =
    (b : Book) (memory : List Label) → Agrees t b slots standing memory
    → ReportLine t b z x r × Agrees t (if_accepted r (reported_as b z x) b) slots' standing' memory

abbrev pub LiftLaw : Table → ℕ → List (Option Notice) → Option Standing → Result (Unit {0}) Refusal → List (Option Notice) → Option Standing → Type 0
LiftLaw t z slots standing r slots' standing' =
    (b : Book) (memory : List Label) → Agrees t b slots standing memory
    → LiftLine t b z r × Agrees t (if_accepted r (reported_as b z None) b) slots' standing' memory

abbrev pub SearchLaw : Table → (s board labels : ℕ) → List (Option Notice) → Option Standing → List Label → Result Found Refusal → List (Option Notice) → Option Standing → List Label → Type 0
SearchLaw t s board labels slots standing memory r slots' standing' memory' =
    (b : Book) (rest : List Label) → Agrees t b slots standing (memory ++ rest)
    → SearchLine t b s board labels memory r memory' × Agrees t (if_accepted r (searched b s) b) slots' standing' (memory' ++ rest)

-- a question changes nothing that the book is about

abbrev pub ArriveLaw : Table → List (Option Notice) → Option Standing → List Label → (v n : ℕ) → Result Pair Refusal → Type 0
ArriveLaw t slots standing memory v n r = (b : Book) (rest : List Label) → Agrees t b slots standing (memory ++ rest) → ArriveLine t b memory v n r

abbrev pub ProfileLaw : Table → List (Option Notice) → Option Standing → List Label → (v : ℕ) (out : List Pair) → Result ℕ Refusal → List Pair → Type 0
ProfileLaw t slots standing memory v out r out' = (b : Book) (rest : List Label) → Agrees t b slots standing (memory ++ rest) → ProfileLine t b memory v out r out'

abbrev pub JourneyLaw : Table → List (Option Notice) → Option Standing → List Label → (v n : ℕ) (out : List Leg) → Result ℕ Refusal → List Leg → Type 0
JourneyLaw t slots standing memory v n out r out' = (b : Book) (rest : List Label) → Agrees t b slots standing (memory ++ rest) → JourneyLine t b memory v n out r out'
