-- When a report or its lifting is refused, and with what: the first of these that holds.
use Rattle.std.specs.Prelude.{ℕ, Bool, false, cond, not, ◌&&◌, ◌||◌, Some, None, Option, is_some, ◌==◌, nat_le, nat_lt}
use Rattle.refusals.specs.declared.refusal.Refusal.{Refusal}
use Rattle.refusals.specs.declared.refusal.Refusal.TheVariants.{NoTrain, DelayLimit, FullNotices, NothingToLift}
use Rattle.timetable.specs.declared.report.Report.{Report}
use Rattle.timetable.specs.declared.report.Report.TheVariants.{Cancelled, Late}

abbrev pub delay : Option Report → ℕ
delay None = 0
delay (Some Cancelled) = 0
delay (Some (Late d)) = d

-- late by 0 or by more than 1,440
abbrev pub bad_delay : Option Report → Bool
bad_delay None = false
bad_delay (Some Cancelled) = false
bad_delay (Some (Late d)) = d == 0 || nat_lt 1440 d

-- of report r for train z, where so many notices stand and `stood` is what stands for z
abbrev pub report_refusal : (trains standing : ℕ) (stood : Option Report) (z : ℕ) (r : Option Report) → Option Refusal
report_refusal trains standing stood z r =
    cond (nat_le trains z) (Some (NoTrain z))
    (cond (bad_delay r) (Some (DelayLimit (delay r)))
    (cond (not (is_some stood) && nat_le 32 standing) (Some (FullNotices z)) None))

abbrev pub lift_refusal : (trains : ℕ) (stood : Option Report) (z : ℕ) → Option Refusal
lift_refusal trains stood z =
    cond (nat_le trains z) (Some (NoTrain z))
    (cond (not (is_some stood)) (Some (NothingToLift z)) None)
