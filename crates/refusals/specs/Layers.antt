-- The numbers of the layers.
use Rattle.std.specs.Prelude.{ℕ}
use Rattle.refusals.specs.declared.layer.Layer.{Layer}
use Rattle.refusals.specs.declared.layer.Layer.TheVariants.{Timetable, Notices, Planner, Queue}

abbrev pub layer_number : Layer → ℕ
layer_number Timetable = 1
layer_number Notices = 2
layer_number Planner = 3
layer_number Queue = 4
