-- First departures, places, labels, which labels lead, and their origins.
use Rattle.std.specs.Prelude.{◌≡◌, ℕ, zero, suc, ◌+◌, ◌<◌, ◌≤◌, Bool, true, cond, ◌&&◌, ◌||◌, ◌⊎◌, List, [], ◌∷◌, length, pos, ◌==◌, nat_lt, slice_index}
use Rattle.timetable.specs.Table.{Table, at, stations, connections, transfer, stand, next_departure, Follows}
use Rattle.timetable.specs.Itinerary.{Ride, Itinerary, arrival, last}

-- c may be a first ride from s
abbrev pub leaves : Table → ℕ → ℕ → Bool
leaves t s c = (at t c).runs && (at t c).start.0 == s

-- the earlier departure first, then the lower number
abbrev pub sooner : Table → ℕ → ℕ → Bool
sooner t c e = nat_lt (at t c).departure (at t e).departure || ((at t c).departure == (at t e).departure && nat_lt c e)

-- x put into a list in order, behind all that come before it
unfoldable pub inserted : {X : Type 0} → (X → X → Bool) → X → List X → List X
inserted before x [] = x ∷ []
inserted before x (y ∷ ys) = cond (before y x) (y ∷ inserted before x ys) (x ∷ y ∷ ys)

-- the first departures from s among the connections below k, in order
unfoldable pub firsts_below : Table → ℕ → ℕ → List ℕ
firsts_below t s zero = []
firsts_below t s (suc c) = cond (leaves t s c) (inserted (sooner t) c (firsts_below t s c)) (firsts_below t s c)

-- the first departures from s; a rank is a place in this list
abbrev pub firsts : Table → ℕ → List ℕ
firsts t s = firsts_below t s (connections t)

abbrev pub ranks : Table → ℕ → ℕ
ranks t s = length (firsts t s)

abbrev pub rank_connection : Table → ℕ → ℕ → ℕ
rank_connection t s i = slice_index (firsts t s) i

-- places: the stations, then the connections
abbrev pub places : Table → ℕ
places t = stations t + connections t

abbrev pub connection_place : Table → ℕ → ℕ
connection_place t c = stations t + c

-- an itinerary that begins with rank i's connection in the present period comes to place p at n:
-- it arrives at that station, or its last ride departs as that connection
pub record Reaches (t : Table) (s i p n : ℕ) : Type 0 where
  pub first : Ride
  pub rest : List Ride
  pub is_itinerary : Itinerary t (first ∷ rest)
  pub ranked : i < ranks t s
  pub begins : first.connection ≡ rank_connection t s i
  pub in_period : first.moment ≡ pos (at t first.connection).departure
  pub comes :
      ((p ≡ (at t (last first rest).connection).end.0) × (arrival t (last first rest) ≡ pos n))
      ⊎ ((p ≡ connection_place t (last first rest).connection) × ((last first rest).moment ≡ pos n))

-- the earliest
pub record IsLabel (t : Table) (s i p n : ℕ) : Type 0 where
  pub reached : Reaches t s i p n
  pub earliest : (n' : ℕ) → Reaches t s i p n' → n ≤ n'

-- every higher rank has there no label or a strictly later one
pub record Leads (t : Table) (s i p n : ℕ) : Type 0 where
  pub label : IsLabel t s i p n
  pub in_front : (j n' : ℕ) → i < j → IsLabel t s j p n' → n < n'

-- place q, labelled n, gives place p the minute n': by a ride's arrival, a stay or a change
pub data Gives (t : Table) (q n p n' : ℕ) : Type 0 where
  by_ride : (c : ℕ) → c < connections t → q ≡ connection_place t c → p ≡ (at t c).end.0 → n' ≡ n + (at t c).ride → Gives t q n p n'
  by_stay : (c e : ℕ) → Follows t c e → (at t e).runs ≡ true → q ≡ connection_place t c → p ≡ connection_place t e → n' ≡ n + (at t c).ride + stand t c e → Gives t q n p n'
  by_change : (c : ℕ) → c < connections t → (at t c).runs ≡ true → q ≡ (at t c).start.0 → p ≡ connection_place t c → n' ≡ next_departure t c (n + transfer t q) → Gives t q n p n'

abbrev pub no_origin : ℕ
no_origin = 4294967295

-- the first ride itself
pub record IsFirstRide (t : Table) (s i p n : ℕ) : Type 0 where
  pub ranked : i < ranks t s
  pub place : p ≡ connection_place t (rank_connection t s i)
  pub departure : n ≡ (at t (rank_connection t s i)).departure

-- the highest place whose label at this rank gives it
pub record IsHighestGiver (t : Table) (s i p n o : ℕ) : Type 0 where
  pub minute : ℕ
  pub label : IsLabel t s i o minute
  pub gives : Gives t o minute p n
  pub highest : (q k : ℕ) → IsLabel t s i q k → Gives t q k p n → q ≤ o

abbrev pub IsOrigin : Table → ℕ → ℕ → ℕ → ℕ → ℕ → Type 0
IsOrigin t s i p n o = (IsFirstRide t s i p n × (o ≡ no_origin)) ⊎ IsHighestGiver t s i p n o
