-- That a place, labelled n, gives another no minute n' in one of the ways.
use Rattle.std.specs.Prelude.{◌≡◌, ℕ, ◌+◌, ◌<◌, true, ◌≢◌}
use Rattle.timetable.specs.Table.{Table, at, connections, transfer, stand, next_departure, Follows}
use Rattle.timetable.specs.Labels.{connection_place}

abbrev pub NoRide : Table → ℕ → ℕ → ℕ → ℕ → Type 0
NoRide t q n p n' = (c : ℕ) → c < connections t → q ≡ connection_place t c → p ≡ (at t c).end.0 → n' ≢ n + (at t c).ride

abbrev pub NoStay : Table → ℕ → ℕ → ℕ → ℕ → Type 0
NoStay t q n p n' = (c e : ℕ) → Follows t c e → (at t e).runs ≡ true → q ≡ connection_place t c → p ≡ connection_place t e → n' ≢ n + (at t c).ride + stand t c e

abbrev pub NoChange : Table → ℕ → ℕ → ℕ → ℕ → Type 0
NoChange t q n p n' = (c : ℕ) → c < connections t → (at t c).runs ≡ true → q ≡ (at t c).start.0 → p ≡ connection_place t c → n' ≢ next_departure t c (n + transfer t q)
