-- The law of each call, of the planner before it, p, and after it, q.
use Rattle.std.specs.Prelude.{ℕ, List, Option, Result}
use Rattle.refusals.specs.declared.refusal.Refusal.{Refusal}
use Rattle.timetable.specs.declared.label.Label.{Label}
use Rattle.timetable.specs.declared.leg.Leg.{Leg}
use Rattle.timetable.specs.declared.pair.Pair.{Pair}
use Rattle.timetable.specs.declared.report.Report.{Report}
use Rattle.timetable.specs.Table.{Table}
use Rattle.search.specs.declared.found.Found.{Found}
use Rattle.law.specs.Agreement as law
use Rattle.planner.specs.declared.planner.Planner.{Planner}

module _ {T : Type 0} (meaning : T → Table) where
  abbrev pub NewLaw : Planner T → Type 0
  NewLaw p = law.NewLaw (meaning p.notices.below) p.notices.table.slots p.standing

  abbrev pub ReportLaw : ℕ → Option Report → Planner T → Result (Unit {0}) Refusal → Planner T → Type 0
  ReportLaw z x p r q = law.ReportLaw (meaning p.notices.below) z x p.notices.table.slots p.standing r q.notices.table.slots q.standing

  abbrev pub LiftLaw : ℕ → Planner T → Result (Unit {0}) Refusal → Planner T → Type 0
  LiftLaw z p r q = law.LiftLaw (meaning p.notices.below) z p.notices.table.slots p.standing r q.notices.table.slots q.standing

  abbrev pub SearchLaw : (s board labels : ℕ) → Planner T → List Label → Result Found Refusal → Planner T → List Label → Type 0
  SearchLaw s board labels p memory r q memory' = law.SearchLaw (meaning p.notices.below) s board labels p.notices.table.slots p.standing memory r q.notices.table.slots q.standing memory'

  -- a question leaves the planner as it is
  abbrev pub ArriveLaw : Planner T → List Label → (v n : ℕ) → Result Pair Refusal → Type 0
  ArriveLaw p = law.ArriveLaw (meaning p.notices.below) p.notices.table.slots p.standing

  abbrev pub ProfileLaw : Planner T → List Label → (v : ℕ) (out : List Pair) → Result ℕ Refusal → List Pair → Type 0
  ProfileLaw p = law.ProfileLaw (meaning p.notices.below) p.notices.table.slots p.standing

  abbrev pub JourneyLaw : Planner T → List Label → (v n : ℕ) (out : List Leg) → Result ℕ Refusal → List Leg → Type 0
  JourneyLaw p = law.JourneyLaw (meaning p.notices.below) p.notices.table.slots p.standing
