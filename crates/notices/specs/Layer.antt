-- What the layer says of trains, and what it answers to a report and to its lifting: n is the layer before the call, n' after
-- it, and `trains` how many trains the timetable below has.
use Rattle.std.specs.Prelude.{◌≡◌, ℕ, Some, None, Option, Result, MatchResult}
use Rattle.refusals.specs.declared.refusal.Refusal.{Refusal}
use Rattle.timetable.specs.declared.report.Report.{Report}
use Rattle.notices.specs.declared.layer.Notices.{Notices}
use Rattle.notices.specs.Slots.{found, used, Entered}
use Rattle.notices.specs.Refused.{report_refusal, lift_refusal}

-- what is reported of each train
abbrev pub report_of : {T : Type 0} → Notices T → ℕ → Option Report
report_of n = found n.table.slots

-- how many notices stand
abbrev pub standing : {T : Type 0} → Notices T → ℕ
standing n = used n.table.slots

-- report r of train z is entered, or refused and changes nothing
abbrev pub ReportAnswered : {T : Type 0} (trains : ℕ) (n n' : Notices T) (z : ℕ) (r : Option Report) → Result (Unit {0}) Refusal → Type 0
ReportAnswered trains n n' z r result =
    MatchResult result
    (λ _. (report_refusal trains (standing n) (report_of n z) z r ≡ None) × Entered n.table.slots n'.table.slots z r)
    (λ e. (report_refusal trains (standing n) (report_of n z) z r ≡ Some e) × (n' ≡ n))

-- the report of train z is taken back, or that is refused and changes nothing
abbrev pub LiftAnswered : {T : Type 0} (trains : ℕ) (n n' : Notices T) (z : ℕ) → Result (Unit {0}) Refusal → Type 0
LiftAnswered trains n n' z result =
    MatchResult result
    (λ _. (lift_refusal trains (report_of n z) z ≡ None) × Entered n.table.slots n'.table.slots z None)
    (λ e. (lift_refusal trains (report_of n z) z ≡ Some e) × (n' ≡ n))
