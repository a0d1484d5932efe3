-- The legs of an itinerary: its maximal runs of stays.
use Rattle.std.specs.Prelude.{ℕ, ◌+◌, List, [], ◌∷◌, pos}
use Rattle.timetable.specs.declared.leg.Leg.{Leg}
use Rattle.timetable.specs.Table.{Table, at}
use Rattle.timetable.specs.Itinerary.{Ride, Stays}

-- connection c, departing at minute n
abbrev pub ride_at : ℕ → ℕ → Ride
ride_at c n = record { connection = c; moment = pos n }

-- the leg of one ride
abbrev pub leg_of : Table → ℕ → ℕ → Leg
leg_of t c n = record { train = (at t c).train; first = record { 0 = c }; last = record { 0 = c }; departure = n; arrival = n + (at t c).ride }

-- a leg with a ride of the same train in front
abbrev pub boarded : Table → ℕ → ℕ → Leg → Leg
boarded t c n g = record { train = (at t c).train; first = record { 0 = c }; last = g.last; departure = n; arrival = g.arrival }

pub data Legs (t : Table) : Ride → List Ride → List Leg → Type 0 where
  ends : (c n : ℕ) → Legs t (ride_at c n) [] (leg_of t c n ∷ [])
  stays : (c n : ℕ) {s : Ride} {rest : List Ride} {g : Leg} {gs : List Leg} → Stays t (ride_at c n) s → Legs t s rest (g ∷ gs) → Legs t (ride_at c n) (s ∷ rest) (boarded t c n g ∷ gs)
  changes : (c n : ℕ) {s : Ride} {rest : List Ride} {gs : List Leg} → (Stays t (ride_at c n) s → ⊥) → Legs t s rest gs → Legs t (ride_at c n) (s ∷ rest) (leg_of t c n ∷ gs)
