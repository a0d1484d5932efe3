-- The theorems about labels and the search, of any lawful timetable.
use Rattle.std.specs.Prelude.{◌≡◌, ℕ, ◌*◌, ◌%◌, ◌<◌, ◌≤◌, true, ◌↔◌, List, [], length}
use Rattle.timetable.specs.Table.{Table, Lawful, at, connections, next_departure}
use Rattle.timetable.specs.Labels.{sooner, leaves, ranks, rank_connection, places, IsLabel, Leads, Gives, IsFirstRide, IsOrigin}
use Rattle.journeys.specs.Search.{Ways, Entry, Mem, Begins, Step, Running, State}

-- what the ways of a timetable are to a search from s
abbrev pub ways : Table → ℕ → Ways
ways t s = record { first = IsFirstRide t s; gives = Gives t }

-- ---- first departures

-- they are the running connections that start at s, each once, and stand in their order: by departure, and where
-- that ties by number
pub record FirstsOrdered (t : Table) (s : ℕ) : Type 0 where
  pub sound : (i : ℕ) → i < ranks t s → (rank_connection t s i < connections t) × (leaves t s (rank_connection t s i) ≡ true)
  pub whole : (c : ℕ) → c < connections t → leaves t s c ≡ true → (i : ℕ) × (i < ranks t s) × (rank_connection t s i ≡ c)
  pub ordered : (i j : ℕ) → i < j → j < ranks t s → sooner t (rank_connection t s i) (rank_connection t s j) ≡ true

abbrev pub FirstDepartures : Type 0
FirstDepartures = (t : Table) (s : ℕ) → FirstsOrdered t s

-- ---- departures

-- the first departure at or after x is a departure, and none at or after x is earlier
abbrev pub NextFirst : Type 0
NextFirst = (t : Table) → Lawful t → (c : ℕ) → c < connections t → (x : ℕ) → (next_departure t c x % t.period ≡ (at t c).departure) × (x ≤ next_departure t c x) × ((m : ℕ) → m % t.period ≡ (at t c).departure → x ≤ m → next_departure t c x ≤ m)

-- what an earlier label gives is no later
abbrev pub GivesMonotone : Type 0
GivesMonotone = (t : Table) → Lawful t → (q m p n k : ℕ) → Gives t q m p n → k ≤ m → (o : ℕ) × Gives t q k p o × (o ≤ n)

-- ---- the search

-- a search begins with what holds between its steps, and keeps it
abbrev pub SearchBegins : Type 0
SearchBegins = (t : Table) → Lawful t → (s : ℕ) (queue : List Entry) → Begins (ways t s) queue → Running (ways t s) [] queue

abbrev pub SearchKeeps : Type 0
SearchKeeps = (t : Table) → Lawful t → (s : ℕ) (l queue l' queue' : List Entry) → Step (ways t s) l queue l' queue' → Running (ways t s) l queue → Running (ways t s) l' queue'

-- the settled labels are exactly the leading labels, with exactly their origins
abbrev pub SettledExactly : Table → ℕ → List Entry → Type 0
SettledExactly t s l = (e : Entry) → Mem e l ↔ (Leads t s e.rank e.place e.minute × IsOrigin t s e.rank e.place e.minute e.origin)

-- so it is where the queue is empty
abbrev pub SearchEnds : Type 0
SearchEnds = (t : Table) → Lawful t → (s : ℕ) (l : List Entry) → Running (ways t s) l [] → SettledExactly t s l

abbrev pub SearchFound : Type 0
SearchFound = (t : Table) → Lawful t → (s : ℕ) (l : List Entry) → State (ways t s) l [] → SettledExactly t s l

-- ---- bounds

-- a label is below 400,000,000
abbrev pub LabelsSmall : Type 0
LabelsSmall = (t : Table) → Lawful t → (s i p n : ℕ) → IsLabel t s i p n → n < 400000000

-- and so is every minute that a search settles or queues; all its ranks and places are the timetable's; and it settles
-- no rank and place twice, so at most first departures × places labels
pub record Small (t : Table) (s : ℕ) (l queue : List Entry) : Type 0 where
  pub settled : (e : Entry) → Mem e l → (e.minute < 400000000) × (e.rank < ranks t s) × (e.place < places t)
  pub queued : (e : Entry) → Mem e queue → (e.minute < 400000000) × (e.rank < ranks t s) × (e.place < places t)
  pub once : (a b : Entry) → Mem a l → Mem b l → a.place ≡ b.place → a.rank ≡ b.rank → a ≡ b
  pub few : length l ≤ ranks t s * places t

abbrev pub SearchSmall : Type 0
SearchSmall = (t : Table) → Lawful t → (s : ℕ) (l queue : List Entry) → State (ways t s) l queue → Small t s l queue
