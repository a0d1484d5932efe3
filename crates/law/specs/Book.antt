-- The book of a run: what is reported of each train, and the source of the standing search, kept from the arguments of the
-- accepted calls alone.
use Rattle.std.specs.Prelude.{ℕ, zero, suc, ◌+◌, cond, Some, None, Ok, Err, Option, Result, ◌==◌}
use Rattle.refusals.specs.declared.refusal.Refusal.{Refusal}
use Rattle.timetable.specs.declared.report.Report.{Report}
use Rattle.timetable.specs.Table.{Table}
use Rattle.timetable.specs.Noticed.{noticed}
use Rattle.notices.specs.Slots.{weight}

pub record Book : Type 0 where
  pub says : ℕ → Option Report
  pub source : Option ℕ

-- before the first call
abbrev pub fresh : Book
fresh = record { says = λ _. None; source = None }

-- after an accepted cancel, late or lift of train z: r over what stood for z, and the source is struck
abbrev pub reported_as : Book → ℕ → Option Report → Book
reported_as b z r = record { says = λ y. cond (y == z) r (b.says y); source = None }

-- after an accepted search from s
abbrev pub searched : Book → ℕ → Book
searched b s = record { says = b.says; source = Some s }

-- a refused call leaves the book as it was
abbrev pub if_accepted : {X : Type 0} → Result X Refusal → Book → Book → Book
if_accepted (Ok x) after before = after
if_accepted (Err e) after before = before

-- the timetable in force, where t is the one under the reports
abbrev pub in_force : Table → Book → Table
in_force t b = noticed t b.says

-- how many trains below n are cancelled or late
unfoldable pub noted_below : (ℕ → Option Report) → ℕ → ℕ
noted_below says zero = 0
noted_below says (suc z) = weight (says z) + noted_below says z

-- how many notices stand
abbrev pub standing_notices : Table → Book → ℕ
standing_notices t b = noted_below b.says t.trains
