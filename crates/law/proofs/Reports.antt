-- The law of cancel, late and lift, and that the slots of a planner and its book stand for one timetable.
use Rattle.std.proofs.Common.{◌≡◌, ℕ, ◌<◌, cond, eqb, leb, ◌≢◌, List, None, Ok, Option, sym, ap, ◌∙◌, arith}
use mathlib.Core.Path.{fun_ext}
use Rattle.std.proofs.lemmas.Bool.{leb-false}
use Rattle.std.proofs.lemmas.Bool.Decides.{nat_tests}
use Rattle.timetable.specs.declared.label.Label.{Label}
use Rattle.timetable.specs.declared.report.Report.{Report}
use Rattle.timetable.specs.Table.{Table}
use Rattle.timetable.specs.Noticed.{noticed}
use Rattle.notices.specs.declared.notice.Notice.{Notice}
use Rattle.notices.specs.Refused.{report_refusal, lift_refusal}
use Rattle.notices.specs.Slots.{found, used, weight, Entered}
use Rattle.notices.proofs.Entering.{past}
use Rattle.questions.specs.declared.standing.Standing.{Standing}
use Rattle.law.specs.Book.{Book, fresh, in_force, standing_notices, reported_as}
use Rattle.law.specs.Lines.{answered}
use Rattle.law.specs.Agreement.{Agrees, ReportLaw, LiftLaw}
use Rattle.law.proofs.Counting.{changed_once, none_noted}

-- the timetable under the slots is the book's
pub same_table : (t : Table) (b : Book) (slots : List (Option Notice)) → ((z : ℕ) → found slots z ≡ b.says z) → noticed t (found slots) ≡ in_force t b
same_table t b slots h = ap (noticed t) (fun_ext h)

pub agrees_fresh : (t : Table) (slots : List (Option Notice)) (memory : List Label) → ((z : ℕ) → found slots z ≡ None) → used slots ≡ 0 → Agrees t fresh slots None memory
agrees_fresh t slots memory says none = record { says = says; count = none ∙ sym (none_noted t.trains); search = tt }

module _ (t : Table) (b : Book) (slots slots' : List (Option Notice)) (standing : Option Standing) (memory : List Label) (z : ℕ) (a : Agrees t b slots standing memory) where
  -- after an accepted report
  agrees_reported : (x : Option Report) → z < t.trains → Entered slots slots' z x → Agrees t (reported_as b z x) slots' None memory
  agrees_reported x l e =
      let now : ℕ → Option Report = (reported_as b z x).says in
      let other : (y : ℕ) → y ≢ z → now y ≡ b.says y = λ y k. grind (arith, nat_tests) in
      let here : now z ≡ x = grind (arith, nat_tests) in
      record {
        says = λ y. e.says y ∙ ap (cond (eqb y z) x) (a.says y);
        count = omega (arith, e.count, a.count, changed_once b.says now t.trains z l other, ap weight here, ap weight (a.says z));
        search = tt;
      }

  same_report : (x : Option Report) → report_refusal t.trains (used slots) (found slots z) z x ≡ report_refusal t.trains (standing_notices t b) (b.says z) z x
  same_report x = rw (a.count, a.says z)

  same_lift : lift_refusal t.trains (found slots z) z ≡ lift_refusal t.trains (b.says z) z
  same_lift = rw (a.says z)

-- the law of an accepted cancel or late, and of a lift, which leave no search standing
module _ (t : Table) (z : ℕ) (slots slots' : List (Option Notice)) (standing standing' : Option Standing) (none : standing' ≡ None) where
  pub report_law : (x : Option Report) → report_refusal t.trains (used slots) (found slots z) z x ≡ None → Entered slots slots' z x → ReportLaw t z x slots standing (Ok tt) slots' standing'
  report_law x n e b memory a =
      let l : z < t.trains = leb-false t.trains z (past (leb t.trains z) _ _ n).0 in
      (ap answered (sym n ∙ same_report t b slots slots' standing memory z a x), rw none (agrees_reported t b slots slots' standing memory z a x l e))

  pub lift_law : lift_refusal t.trains (found slots z) z ≡ None → Entered slots slots' z None → LiftLaw t z slots standing (Ok tt) slots' standing'
  lift_law n e b memory a =
      let l : z < t.trains = leb-false t.trains z (past (leb t.trains z) _ _ n).0 in
      (ap answered (sym n ∙ same_lift t b slots slots' standing memory z a), rw none (agrees_reported t b slots slots' standing memory z a None l e))
