-- The unbeaten pairs by a check that computes over the settled labels.
use Rattle.std.specs.Prelude.{◌≡◌, ℕ, ◌+◌, ◌-◌, ◌%◌, ◌<◌, Bool, true, false, not, ◌&&◌, ◌||◌, ◌⊎◌, ◌↔◌, List, [], ◌∷◌, ℤ, pos, ◌≤ℤ◌, ◌==◌, nat_le}
use Rattle.timetable.specs.Table.{Table, Lawful, at, stations, ahead, next_departure}
use Rattle.timetable.specs.Pairs.{Travels, Unbeaten}
use Rattle.timetable.specs.Legs.{Legs}
use Rattle.timetable.specs.declared.leg.Leg.{Leg}
use Rattle.timetable.specs.Labels.{rank_connection}
use Rattle.journeys.specs.Search.{Entry, Mem}
use Rattle.journeys.specs.Checked.{all_of, any_of, complete}

-- the departure of a label's rank, in the present period
abbrev pub leaving_of : Table → ℕ → Entry → ℕ
leaving_of t s e = (at t (rank_connection t s e.rank)).departure

-- g's next departure at or after that of e
abbrev pub next_of : Table → ℕ → Entry → Entry → ℕ
next_of t s e g = next_departure t (rank_connection t s g.rank) (leaving_of t s e)

-- and its arrival then
abbrev pub next_arrival : Table → ℕ → Entry → Entry → ℕ
next_arrival t s e g = next_of t s e g + (g.minute - leaving_of t s g)

-- e is a label of v, and each label g of v that departs at or after e, at once or a period later, arrives later or is
-- the same pair
abbrev pub unbeaten_in : Table → ℕ → ℕ → List Entry → Entry → Bool
unbeaten_in t s v l e = e.place == v && all_of (λ g. not (g.place == v) || (not (nat_le (next_arrival t s e g) e.minute) || (next_of t s e g == leaving_of t s e && next_arrival t s e g == e.minute))) l

-- a label whose pair is (x, y)
pub record Listed (t : Table) (s v : ℕ) (l : List Entry) (x : ℕ) (y : ℤ) : Type 0 where
  pub by : Entry
  pub in_it : Mem by l
  pub passes : unbeaten_in t s v l by ≡ true
  pub departs : x ≡ leaving_of t s by
  pub arrives : y ≡ pos by.minute

-- the unbeaten pairs that depart in the present period are those of the labels that pass
abbrev pub ProfileSound : Type 0
ProfileSound = (t : Table) → Lawful t → (s v : ℕ) → v < stations t → (l : List Entry) → complete t s l ≡ true → (x : ℕ) (y : ℤ) → x < t.period → Unbeaten t s v (pos x) y ↔ Listed t s v l x y

-- the first unbeaten pair at or after a moment
pub record FirstAt (t : Table) (s v : ℕ) (n d a : ℤ) : Type 0 where
  pub unbeaten : Unbeaten t s v d a
  pub late_enough : n ≤ℤ d
  pub first : (d' a' : ℤ) → Unbeaten t s v d' a' → n ≤ℤ d' → d ≤ℤ d'

-- ---- profiles and arrivals as lists of pairs

abbrev pub Among : ℕ → ℤ → List (ℕ × ℕ) → Type 0
Among x y [] = ⊥
Among x y (p ∷ ps) = ((x ≡ p.0) × (y ≡ pos p.1)) ⊎ Among x y ps

-- these are the unbeaten pairs that depart in the present period
abbrev pub ProfileIs : Table → ℕ → ℕ → List (ℕ × ℕ) → Type 0
ProfileIs t s v ps = (x : ℕ) (y : ℤ) → x < t.period → Unbeaten t s v (pos x) y ↔ Among x y ps

abbrev pub pair_of : Table → ℕ → Entry → ℕ × ℕ → Bool
pair_of t s e p = leaving_of t s e == p.0 && e.minute == p.1

abbrev pub any_pair : (ℕ × ℕ → Bool) → List (ℕ × ℕ) → Bool
any_pair q [] = false
any_pair q (p ∷ ps) = q p || any_pair q ps

abbrev pub all_pairs : (ℕ × ℕ → Bool) → List (ℕ × ℕ) → Bool
all_pairs q [] = true
all_pairs q (p ∷ ps) = q p && all_pairs q ps

-- the labels that pass have these pairs
abbrev pub profile_check : Table → ℕ → ℕ → List Entry → List (ℕ × ℕ) → Bool
profile_check t s v l ps =
    all_of (λ e. not (unbeaten_in t s v l e) || any_pair (pair_of t s e) ps) l
    && all_pairs (λ p. any_of (λ e. unbeaten_in t s v l e && pair_of t s e p) l) ps

abbrev pub ProfileChecked : Type 0
ProfileChecked = (t : Table) → Lawful t → (s v : ℕ) → v < stations t → (l : List Entry) → complete t s l ≡ true → (ps : List (ℕ × ℕ)) → profile_check t s v l ps ≡ true → ProfileIs t s v ps

-- (d, a) is one of the pairs, moved by whole periods, and no pair departs at n or later and before d
abbrev pub arrival_check : ℕ → List (ℕ × ℕ) → ℕ → ℕ → ℕ → Bool
arrival_check period ps n d a =
    any_pair (λ p. (d % period == p.0) && a + p.0 == p.1 + d) ps
    && (nat_le n d && all_pairs (λ p. nat_le d (n + ahead period n p.0)) ps)

abbrev pub ArrivalChecked : Type 0
ArrivalChecked = (t : Table) → Lawful t → (s v : ℕ) → v < stations t → (ps : List (ℕ × ℕ)) → ProfileIs t s v ps → (n d a : ℕ) → arrival_check t.period ps n d a ≡ true → FirstAt t s v (pos n) (pos d) (pos a)

-- the legs of an itinerary that has the first unbeaten pair at or after a moment
pub record JourneyIs (t : Table) (s v : ℕ) (n : ℤ) (gs : List Leg) : Type 0 where
  pub departs : ℤ
  pub arrives : ℤ
  pub pair : FirstAt t s v n departs arrives
  pub travels : Travels t s v departs arrives
  pub legs : Legs t travels.first travels.rest gs
