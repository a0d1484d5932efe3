-- Two example timetables, for documents, tests and worked examples.
use Rattle.std.specs.Prelude.{ℕ, true, [], ◌∷◌}
use Rattle.timetable.specs.declared.connection.Connection.{Connection}
use Rattle.timetable.specs.Table.{Table}

-- a running connection: train, start, end, departure, ride
abbrev pub running : ℕ → ℕ → ℕ → ℕ → ℕ → Connection
running z s e d r = record { train = record { 0 = z }; start = record { 0 = s }; end = record { 0 = e }; departure = d; ride = r; runs = true }

-- a day with five trains between three stations
abbrev pub timetable_a : Table
timetable_a =
    record {
      period = 1440;
      trains = 5;
      transfers = 3 ∷ 5 ∷ 4 ∷ [];
      list = running 0 0 1 480 20 ∷ running 0 1 2 505 30 ∷ running 1 0 1 490 10 ∷ running 2 1 2 504 25 ∷ running 3 0 2 1430 40 ∷ running 4 1 2 530 20 ∷ [];
    }

-- an hour with two trains between two stations; the ride of the first ends in the next hour
abbrev pub timetable_b : Table
timetable_b = record { period = 60; trains = 2; transfers = 0 ∷ 0 ∷ []; list = running 0 0 1 50 30 ∷ running 1 0 1 5 10 ∷ [] }
