-- A check that computes: whether a list of labels, each after its origin's, is what a finished search has settled.
use Rattle.std.specs.Prelude.{◌≡◌, ℕ, Bool, true, false, not, ◌&&◌, ◌||◌, List, [], ◌∷◌, ◌==◌, nat_le, nat_lt}
use Rattle.timetable.specs.Table.{Table, Lawful}
use Rattle.journeys.specs.Search.{Entry}
use Rattle.journeys.specs.Theorems.{SettledExactly}
use Rattle.journeys.specs.Queued.{opening, leads}

abbrev pub all_of : (Entry → Bool) → List Entry → Bool
all_of p [] = true
all_of p (e ∷ l) = p e && all_of p l

abbrev pub any_of : (Entry → Bool) → List Entry → Bool
any_of p [] = false
any_of p (e ∷ l) = p e || any_of p l

abbrev pub same_entry : Entry → Entry → Bool
same_entry a b = a.minute == b.minute && (a.rank == b.rank && (a.place == b.place && a.origin == b.origin))

-- each is a first ride, or one of the labels before it leads to it
abbrev pub grounded_in : Table → ℕ → List Entry → List Entry → Bool
grounded_in t s before [] = true
grounded_in t s before (e ∷ l) = (any_of (same_entry e) (opening t s) || any_of (λ g. any_of (same_entry e) (leads t g)) before) && grounded_in t s (e ∷ before) l

-- a label of the list makes x needless
abbrev pub covers : Entry → Entry → Bool
covers x b = b.place == x.place && (nat_le x.rank b.rank && (nat_le b.minute x.minute && (not (b.rank == x.rank && b.minute == x.minute) || nat_le x.origin b.origin)))

-- of two ranks at one place the higher has the later label, and no rank and place comes twice
abbrev pub apart_from : Entry → Entry → Bool
apart_from a b = not (a.place == b.place) || ((not (nat_lt a.rank b.rank) || nat_lt a.minute b.minute) && (not (a.rank == b.rank) || same_entry a b))

abbrev pub complete : Table → ℕ → List Entry → Bool
complete t s l =
    grounded_in t s [] l
    && (all_of (λ x. any_of (covers x) l) (opening t s)
    && (all_of (λ g. all_of (λ x. any_of (covers x) l) (leads t g)) l
    && all_of (λ a. all_of (apart_from a) l) l))

-- the check is sound: a list that passes is the list of the leading labels with their origins
abbrev pub CheckSound : Type 0
CheckSound = (t : Table) → Lawful t → (s : ℕ) (l : List Entry) → complete t s l ≡ true → SettledExactly t s l
