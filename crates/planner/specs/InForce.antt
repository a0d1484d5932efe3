-- The timetable that a planner asks: the one under its reports, changed by what is reported.
use Rattle.timetable.specs.Table.{Table}
use Rattle.timetable.specs.Noticed.{noticed}
use Rattle.notices.specs.Slots.{found}
use Rattle.planner.specs.declared.planner.Planner.{Planner}

-- where meaning is what the timetable under the reports means
abbrev pub in_force : {T : Type 0} → (T → Table) → Planner T → Table
in_force meaning p = noticed (meaning p.notices.below) (found p.notices.table.slots)
