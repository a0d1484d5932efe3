-- Itineraries that depart at 0 or later, as paths over natural minutes.
use Rattle.std.specs.Prelude.{◌≡◌, ℕ, ◌+◌, ◌%◌, ◌≤◌, true, ◌↔◌, List, ◌∷◌, pos}
use Rattle.timetable.specs.Table.{Table, Lawful, at, transfer, stand, Follows}
use Rattle.timetable.specs.Itinerary.{Ride, Itinerary, last}
use Rattle.timetable.specs.Legs.{ride_at}

abbrev pub Runs : Table → ℕ → Type 0
Runs t c = (at t c).runs ≡ true

-- connection f, departing in the present period
abbrev pub opening_ride : Table → ℕ → Ride
opening_ride t f = ride_at f (at t f).departure

-- an itinerary that begins with connection f at minute b, and ends with the ride z
pub record Journey (t : Table) (f b : ℕ) (z : Ride) : Type 0 where
  pub rest : List Ride
  pub itinerary : Itinerary t (ride_at f b ∷ rest)
  pub ends : last (ride_at f b) rest ≡ z

-- the same, grown at its end: to a ride of connection c that departs at minute n
pub data Reach (t : Table) (f b : ℕ) : ℕ → ℕ → Type 0 where
  first : Runs t f → b % t.period ≡ (at t f).departure → Reach t f b f b
  stay : {c e n : ℕ} → Reach t f b c n → Runs t e → Follows t c e → Reach t f b e (n + (at t c).ride + stand t c e)
  change : {c d n m : ℕ} → Reach t f b c n → Runs t d → (at t d).start.0 ≡ (at t c).end.0 → m % t.period ≡ (at t d).departure → n + (at t c).ride + transfer t (at t c).end.0 ≤ m → Reach t f b d m

-- an itinerary that departs at 0 or later is such a path over natural minutes, and each path is one
abbrev pub Bridge : Type 0
Bridge = (t : Table) → Lawful t → (f b : ℕ) (z : Ride) → Journey t f b z ↔ ((n : ℕ) × (z.moment ≡ pos n) × Reach t f b z.connection n)
