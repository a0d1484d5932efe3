-- The numbers of a timetable's header.
use Rattle.timetable.specs.Table.{Table, stations, connections}
use Rattle.timetable.specs.declared.counts.Counts.{Counts}

abbrev pub counts_of : Table → Counts
counts_of t = record { period = t.period; stations = stations t; trains = t.trains; connections = connections t }
