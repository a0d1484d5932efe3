-- The itinerary that the origins of a settled label tell.
use Rattle.std.specs.Prelude.{◌≡◌, ℕ, ◌+◌, ◌-◌, ◌*◌, ◌<◌, Bool, false, cond, ◌⊎◌, List, [], ◌∷◌, ◌++◌, pos, nat_le, nat_lt}
use Rattle.timetable.specs.Table.{Table, at, stations, Lawful}
use Rattle.timetable.specs.Itinerary.{Ride, arrival, Itinerary, last}
use Rattle.timetable.specs.Legs.{leg_of, Legs}
use Rattle.timetable.specs.declared.leg.Leg.{Leg}
use Rattle.timetable.specs.Labels.{rank_connection, connection_place, places}
use Rattle.journeys.specs.Search.{Entry, Mem, State, nowhere}
use Rattle.journeys.specs.Theorems.{ways}

-- the way back from an entry: this number falls with every step to an origin, so the way ends
abbrev pub depth : Table → Entry → ℕ
depth t e = e.minute * places t + e.place

-- a settled label, that of its origin at the same rank, and so on back to the first ride; each step falls
pub data Chain (t : Table) (s : ℕ) (l : List Entry) : Entry → List Entry → Type 0 where
  from : (e : Entry) → Mem e l → (ways t s).first e.rank e.place e.minute → e.origin ≡ nowhere → Chain t s l e (e ∷ [])
  back : (e g : Entry) (es : List Entry) → Mem e l → g.rank ≡ e.rank → g.place ≡ e.origin → depth t g < depth t e → (ways t s).gives g.place g.minute e.place e.minute → Chain t s l g es → Chain t s l e (e ∷ es)

-- the rides among the entries of a chain, in the order in which they are taken
abbrev pub rides_of : Table → List Entry → List Ride
rides_of t [] = []
rides_of t (e ∷ es) = cond (nat_lt e.place (stations t)) (rides_of t es) (rides_of t es ++ (record { connection = e.place - stations t; moment = pos e.minute } ∷ []))

-- rides that are an itinerary of e's rank, beginning in the present period, that comes to e's place at e's minute
pub record Tells (t : Table) (s : ℕ) (e : Entry) (rides : List Ride) : Type 0 where
  pub first : Ride
  pub rest : List Ride
  pub are : rides ≡ first ∷ rest
  pub is_itinerary : Itinerary t (first ∷ rest)
  pub begins : first.connection ≡ rank_connection t s e.rank
  pub in_period : first.moment ≡ pos (at t (rank_connection t s e.rank)).departure
  pub comes :
      ((e.place ≡ (at t (last first rest).connection).end.0) × (arrival t (last first rest) ≡ pos e.minute))
      ⊎ ((e.place ≡ connection_place t (last first rest).connection) × ((last first rest).moment ≡ pos e.minute))

-- the legs that a chain tells: a step from connection to connection stays aboard, one over a station changes
abbrev pub extended : ℕ → ℕ → List Leg → List Leg
extended c a [] = []
extended c a (g ∷ []) = record { train = g.train; first = g.first; last = record { 0 = c }; departure = g.departure; arrival = a } ∷ []
extended c a (g ∷ h ∷ gs) = g ∷ extended c a (h ∷ gs)

-- the first entry, if any, is of a connection
abbrev pub aboard : Table → List Entry → Bool
aboard t [] = false
aboard t (e ∷ es) = nat_le (stations t) e.place

abbrev pub legs_of : Table → List Entry → List Leg
legs_of t [] = []
legs_of t (e ∷ es) =
    cond (nat_lt e.place (stations t))
    (legs_of t es)
    (cond (aboard t es)
    (extended (e.place - stations t) (e.minute + (at t (e.place - stations t)).ride) (legs_of t es))
    (legs_of t es ++ (leg_of t (e.place - stations t) e.minute ∷ [])))

-- from every label that a finished search has settled, the origins lead back to a first ride, tell an itinerary, and tell
-- its legs
pub record Told (t : Table) (s : ℕ) (l : List Entry) (e : Entry) : Type 0 where
  pub entries : List Entry
  pub chain : Chain t s l e entries
  pub tells : Tells t s e (rides_of t entries)
  pub legs : Legs t tells.first tells.rest (legs_of t entries)

abbrev pub OriginsTell : Type 0
OriginsTell = (t : Table) → Lawful t → (s : ℕ) (l : List Entry) → State (ways t s) l [] → (e : Entry) → Mem e l → Told t s l e
