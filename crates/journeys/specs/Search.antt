-- A search over places, in minutes and ranks: labels, leading labels, origins, and the facts of a finished search.
use Rattle.std.specs.Prelude.{◌≡◌, ℕ, ◌+◌, ◌<◌, ◌≤◌, ◌⊎◌, ◌↔◌, List, [], ◌∷◌, ◌++◌}

-- a label, settled or waiting in the queue: rank comes to place at minute, from origin
pub record Entry : Type 0 where
  pub minute : ℕ
  pub rank : ℕ
  pub place : ℕ
  pub origin : ℕ

-- the origin of a first ride
abbrev pub nowhere : ℕ
nowhere = 4294967295

pub data Mem (e : Entry) : List Entry → Type 0 where
  here : {l : List Entry} → Mem e (e ∷ l)
  there : {x : Entry} {l : List Entry} → Mem e l → Mem e (x ∷ l)

-- what the ways of a timetable are to the search: `first i p n`, the first ride of rank i is at place p at minute n;
-- `gives q m p n`, a label m of place q gives place p the minute n
pub record Ways : Type 1 where
  pub first : ℕ → ℕ → ℕ → Type 0
  pub gives : ℕ → ℕ → ℕ → ℕ → Type 0

-- minutes that ways lead to
pub data Path (w : Ways) (i : ℕ) : ℕ → ℕ → Type 0 where
  begin : {p n : ℕ} → w.first i p n → Path w i p n
  go : {q m p n : ℕ} → Path w i q m → w.gives q m p n → Path w i p n

-- the label of place p at rank i: the least of them
pub record Label (w : Ways) (i p n : ℕ) : Type 0 where
  pub reached : Path w i p n
  pub least : (m : ℕ) → Path w i p m → n ≤ m

-- labels by any account of them: `label i p n`, place p has the label n at rank i
abbrev pub Labels : Type 1
Labels = ℕ → ℕ → ℕ → Type 0

-- a label is leading if every higher rank has there no label, or a later one
pub record Leading (label : Labels) (i p n : ℕ) : Type 0 where
  pub is : label i p n
  pub leads : (j m : ℕ) → i < j → label j p m → n < m

-- whence a label can come: it is the first ride, or place q has a label at the same rank that gives it
abbrev pub From : Ways → Labels → ℕ → ℕ → ℕ → ℕ → Type 0
From w label i p n q = (w.first i p n × (q ≡ nowhere)) ⊎ ((m : ℕ) × label i q m × w.gives q m p n)

-- its origin: the highest of these
pub record Origin (w : Ways) (label : Labels) (i p n q : ℕ) : Type 0 where
  pub from : From w label i p n q
  pub highest : (r : ℕ) → From w label i p n r → r ≤ q

-- ---- a finished search

-- an entry's ground among the settled: it is a first ride, or a settled label at its origin, at the same rank, gives it
abbrev pub Ground : Ways → List Entry → Entry → Type 0
Ground w l e = (w.first e.rank e.place e.minute × (e.origin ≡ nowhere))
    ⊎ ((g : Entry) × Mem g l × (g.rank ≡ e.rank) × (g.place ≡ e.origin) × w.gives g.place g.minute e.place e.minute)

pub record Sound (w : Ways) (l : List Entry) (e : Entry) : Type 0 where
  pub reached : Path w e.rank e.place e.minute
  pub grounds : Ground w l e

-- the settled labels leave no need for entry x: its rank or a higher one has a label there that is no later,
-- and at its own rank one that is earlier, or as early and of no lower origin
pub record Covered (l : List Entry) (x : Entry) : Type 0 where
  pub by : Entry
  pub settled : Mem by l
  pub same : by.place ≡ x.place
  pub higher : x.rank ≤ by.rank
  pub sooner : by.minute ≤ x.minute
  pub own : by.rank ≡ x.rank → by.minute ≡ x.minute → x.origin ≤ by.origin

abbrev pub entry : ℕ → ℕ → ℕ → ℕ → Entry
entry n i p o = record { minute = n; rank = i; place = p; origin = o }

pub record Apart (l : List Entry) : Type 0 where
  pub strict : (a b : Entry) → Mem a l → Mem b l → a.place ≡ b.place → a.rank < b.rank → a.minute < b.minute
  pub single : (a b : Entry) → Mem a l → Mem b l → a.place ≡ b.place → a.rank ≡ b.rank → a ≡ b

pub record Done (w : Ways) (l : List Entry) : Type 0 where
  pub sound : (e : Entry) → Mem e l → Sound w l e
  pub firsts : (i p n : ℕ) → w.first i p n → Covered l (entry n i p nowhere)
  pub closed : (g : Entry) → Mem g l → (p n : ℕ) → w.gives g.place g.minute p n → Covered l (entry n g.rank p g.place)
  pub apart : Apart l

-- ---- the theorem

-- what the ways of a timetable keep: from an earlier minute they lead to one that is no later;
-- they never lead back in time, and within a minute only to a higher place
pub record Forward (w : Ways) : Type 0 where
  pub monotone : (q m p n k : ℕ) → w.gives q m p n → k ≤ m → (o : ℕ) × w.gives q k p o × (o ≤ n)
  pub onward : (q m p n : ℕ) → w.gives q m p n → m ≤ n
  pub upward : (q m p n : ℕ) → w.gives q m p n → m ≡ n → q < p

-- the settled labels are the leading labels, with their origins
abbrev pub Exact : Ways → Labels → List Entry → Type 0
Exact w label l = (e : Entry) → Mem e l ↔ (Leading label e.rank e.place e.minute × Origin w label e.rank e.place e.minute e.origin)

-- ---- a running search

-- the order in which entries are taken: by rising minute; within a minute higher rank first, then lower place, then higher origin
pub record Before (a b : Entry) : Type 0 where
  pub minute : a.minute ≤ b.minute
  pub rank : a.minute ≡ b.minute → b.rank ≤ a.rank
  pub place : a.minute ≡ b.minute → a.rank ≡ b.rank → a.place ≤ b.place
  pub origin : a.minute ≡ b.minute → a.rank ≡ b.rank → a.place ≡ b.place → b.origin ≤ a.origin

-- x is taken from the queue: it comes before every other, and `rest` has the others
pub record Takes (queue : List Entry) (x : Entry) (rest : List Entry) : Type 0 where
  pub held : Mem x queue
  pub least : (e : Entry) → Mem e rest → Before x e
  pub kept : (e : Entry) → Mem e rest → Mem e queue
  pub others : (e : Entry) → Mem e queue → (e ≡ x) ⊎ Mem e rest

-- e is the entry of a place that x leads to
pub record Next (w : Ways) (x e : Entry) : Type 0 where
  pub given : w.gives x.place x.minute e.place e.minute
  pub rank : e.rank ≡ x.rank
  pub origin : e.origin ≡ x.place

-- `queue` is `rest` and the entries of the places that x leads to
pub record Puts (w : Ways) (x : Entry) (rest queue : List Entry) : Type 0 where
  pub kept : (e : Entry) → Mem e rest → Mem e queue
  pub put : (e : Entry) → Next w x e → Mem e queue
  pub only : (e : Entry) → Mem e queue → Mem e rest ⊎ Next w x e

-- one step: the entry taken is dropped if its rank or a higher one has a label there; else it is settled
pub data Step (w : Ways) (l queue : List Entry) : List Entry → List Entry → Type 0 where
  skip : {rest : List Entry} (x g : Entry) → Takes queue x rest → Mem g l → g.place ≡ x.place → x.rank ≤ g.rank → Step w l queue l rest
  settle : {rest queue' : List Entry} (x : Entry) → Takes queue x rest → ((g : Entry) → Mem g l → g.place ≡ x.place → g.rank < x.rank) → Puts w x rest queue' → Step w l queue (l ++ (x ∷ [])) queue'

-- what holds between the steps
pub record Running (w : Ways) (l queue : List Entry) : Type 0 where
  pub sound : (e : Entry) → Mem e l → Sound w l e
  pub waits : (e : Entry) → Mem e queue → Sound w l e
  pub firsts : (i p n : ℕ) → w.first i p n → Mem (entry n i p nowhere) queue ⊎ Covered l (entry n i p nowhere)
  pub closed : (g : Entry) → Mem g l → (p n : ℕ) → w.gives g.place g.minute p n → Mem (entry n g.rank p g.place) queue ⊎ Covered l (entry n g.rank p g.place)
  pub order : (a b : Entry) → Mem a l → Mem b queue → Before a b
  pub apart : Apart l

-- the queue that a search begins with: the first rides
pub record Begins (w : Ways) (queue : List Entry) : Type 0 where
  pub put : (i p n : ℕ) → w.first i p n → Mem (entry n i p nowhere) queue
  pub only : (e : Entry) → Mem e queue → w.first e.rank e.place e.minute × (e.origin ≡ nowhere)

-- the states of a search: the settled labels and the queue
pub data State (w : Ways) : List Entry → List Entry → Type 0 where
  start : {queue : List Entry} → Begins w queue → State w [] queue
  then : {l queue l' queue' : List Entry} → State w l queue → Step w l queue l' queue' → State w l' queue'

-- ---- bounds

-- what bounds the ways: ranks are below M, places below N, a first ride is at minute D at the latest, and one way takes B minutes at most
pub record Bounded (w : Ways) (M N B D : ℕ) : Type 0 where
  pub first_rank : (i p n : ℕ) → w.first i p n → i < M
  pub first_place : (i p n : ℕ) → w.first i p n → p < N
  pub first_minute : (i p n : ℕ) → w.first i p n → n ≤ D
  pub gives_place : (q m p n : ℕ) → w.gives q m p n → p < N
  pub gives_minute : (q m p n : ℕ) → w.gives q m p n → n ≤ m + B
