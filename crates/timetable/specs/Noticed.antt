-- A timetable under reports: a cancelled train's connections do not run, and a train late by d has every departure moved
-- to (departure + d) modulo the period; all else is as it was.
use Rattle.std.specs.Prelude.{ℕ, ◌+◌, ◌%◌, false, map, Some, None, Option}
use Rattle.timetable.specs.declared.connection.Connection.{Connection}
use Rattle.timetable.specs.declared.report.Report.{Report}
use Rattle.timetable.specs.declared.report.Report.TheVariants.{Cancelled, Late}
use Rattle.timetable.specs.Table.{Table}

abbrev pub reported : ℕ → Connection → Option Report → Connection
reported period c None = c
reported period c (Some Cancelled) = record { train = c.train; start = c.start; end = c.end; departure = c.departure; ride = c.ride; runs = false }
reported period c (Some (Late d)) = record { train = c.train; start = c.start; end = c.end; departure = (c.departure + d) % period; ride = c.ride; runs = c.runs }

-- t, with what is said of each train
abbrev pub noticed : Table → (ℕ → Option Report) → Table
noticed t says = record { period = t.period; trains = t.trains; transfers = t.transfers; list = map (λ c. reported t.period c (says c.train.0)) t.list }
