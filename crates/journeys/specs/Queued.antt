-- The entries that a search begins with, and those that an entry leads to, as lists.
use Rattle.std.specs.Prelude.{ℕ, zero, suc, ◌+◌, ◌*◌, ◌≤◌, Bool, cond, ◌&&◌, List, [], ◌∷◌, ◌++◌, length, ◌==◌}
use Rattle.timetable.specs.Table.{Table, at, stations, connections, transfer, stand, next_departure, Lawful}
use Rattle.timetable.specs.Labels.{ranks, rank_connection}
use Rattle.journeys.specs.Search.{Entry, entry, nowhere, Begins, Puts, State}
use Rattle.journeys.specs.Theorems.{ways}

-- the lists of each number below k, one after another
abbrev pub each : (ℕ → List Entry) → ℕ → List Entry
each f zero = []
each f (suc c) = f c ++ each f c

abbrev pub only : Bool → Entry → List Entry
only b e = cond b (e ∷ []) []

-- the first rides
abbrev pub opening : Table → ℕ → List Entry
opening t s = each (λ i. entry (at t (rank_connection t s i)).departure i (stations t + rank_connection t s i) nowhere ∷ []) (ranks t s)

-- what entry x leads to by connection c: its ride's arrival, the stay after it, the change to it
abbrev pub ride_by : Table → Entry → ℕ → List Entry
ride_by t x c = only (x.place == stations t + c) (entry (x.minute + (at t c).ride) x.rank (at t c).end.0 x.place)

abbrev pub stay_by : Table → Entry → ℕ → List Entry
stay_by t x c = only (x.place == stations t + c && ((at t (c + 1)).runs && (at t c).train.0 == (at t (c + 1)).train.0)) (entry (x.minute + (at t c).ride + stand t c (c + 1)) x.rank (stations t + (c + 1)) x.place)

abbrev pub change_by : Table → Entry → ℕ → List Entry
change_by t x c = only ((at t c).runs && x.place == (at t c).start.0) (entry (next_departure t c (x.minute + transfer t x.place)) x.rank (stations t + c) x.place)

abbrev pub leads_by : Table → Entry → ℕ → List Entry
leads_by t x c = ride_by t x c ++ (stay_by t x c ++ change_by t x c)

abbrev pub leads : Table → Entry → List Entry
leads t x = each (leads_by t x) (connections t)

abbrev pub OpeningBegins : Type 0
OpeningBegins = (t : Table) → Lawful t → (s : ℕ) → Begins (ways t s) (opening t s)

abbrev pub LeadsPut : Type 0
LeadsPut = (t : Table) → Lawful t → (s : ℕ) (x : Entry) (rest : List Entry) → Puts (ways t s) x rest (leads t x ++ rest)

-- from every source some search comes to an empty queue
abbrev pub SearchFinishes : Type 0
SearchFinishes = (t : Table) → Lawful t → (s : ℕ) → (l : List Entry) × State (ways t s) l []

-- how many entries a search has ever put when it has settled the labels l: the first rides, and for each of l what it
-- leads to
abbrev pub led : Table → List Entry → ℕ
led t [] = 0
led t (e ∷ l) = length (leads t e) + led t l

abbrev pub ever_put : Table → ℕ → List Entry → ℕ
ever_put t s l = length (opening t s) + led t l

-- at most first departures × (3 × connections + 1)
abbrev pub SearchPutsFew : Type 0
SearchPutsFew = (t : Table) → Lawful t → (s : ℕ) (l queue : List Entry) → State (ways t s) l queue → ever_put t s l ≤ ranks t s * (3 * connections t + 1)
