-- The bytes of a table.
use Rattle.std.specs.Prelude.{ℕ, ◌/◌, ◌%◌, Bool, true, false, List, [], ◌∷◌, ◌++◌}
use Rattle.std.specs.List.{flat_map}
use Rattle.timetable.specs.Table.{Table}
use Rattle.timetable.specs.Counted.{counts_of}
use Rattle.timetable.specs.declared.counts.Counts.{Counts}
use Rattle.timetable.specs.declared.connection.Connection.{Connection}

-- a number, the low byte first
abbrev pub number_bytes : ℕ → List ℕ
number_bytes n = n % 256 ∷ n / 256 ∷ []

abbrev pub mark : Bool → ℕ
mark true = 1
mark false = 0

abbrev pub record_bytes : Connection → List ℕ
record_bytes c = flat_map number_bytes (c.train.0 ∷ c.start.0 ∷ c.end.0 ∷ c.departure ∷ c.ride ∷ mark c.runs ∷ [])

-- a header, from its numbers
abbrev pub header_with : Counts → List ℕ
header_with n = 0x50 ∷ 0x54 ∷ 0x54 ∷ 0 ∷ flat_map number_bytes (1 ∷ n.period ∷ n.stations ∷ n.trains ∷ n.connections ∷ 0 ∷ [])

abbrev pub header_bytes : Table → List ℕ
header_bytes t = header_with (counts_of t)

abbrev pub written : Table → List ℕ
written t = header_bytes t ++ (flat_map number_bytes t.transfers ++ flat_map record_bytes t.list)

-- the smallest table: period 1, one station without transfer time, no train, no connection
abbrev pub smallest : Table
smallest = record { period = 1; trains = 0; transfers = 0 ∷ []; list = [] }
