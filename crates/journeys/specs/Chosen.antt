-- The unbeaten pairs, by leading labels.
use Rattle.std.specs.Prelude.{◌≡◌, ℕ, ◌<◌, ◌↔◌, ℤ, pos, ◌+ℤ◌, ◌*ℤ◌, ◌≤ℤ◌}
use Rattle.timetable.specs.Table.{Table, Lawful, at, stations}
use Rattle.timetable.specs.Pairs.{Travels, Beats, Unbeaten}
use Rattle.timetable.specs.Labels.{rank_connection, Leads}

-- minute n, moved by k periods
abbrev pub moved : Table → ℕ → ℤ → ℤ
moved t n k = pos n +ℤ (k *ℤ pos t.period)

-- a rank's departure with its leading label of the target, moved by whole periods
pub record LeadingPair (t : Table) (s v : ℕ) (d a : ℤ) : Type 0 where
  pub rank : ℕ
  pub minute : ℕ
  pub periods : ℤ
  pub leads : Leads t s rank v minute
  pub departs : d ≡ moved t (at t (rank_connection t s rank)).departure periods
  pub arrives : a ≡ moved t minute periods

-- one that no other beats
pub record Chosen (t : Table) (s v : ℕ) (d a : ℤ) : Type 0 where
  pub pair : LeadingPair t s v d a
  pub unbeaten : (d' a' : ℤ) → LeadingPair t s v d' a' → Beats d' a' d a → ⊥

-- the unbeaten pairs of all itineraries are these
abbrev pub PairsChosen : Type 0
PairsChosen = (t : Table) → Lawful t → (s v : ℕ) → v < stations t → (d a : ℤ) → Unbeaten t s v d a ↔ Chosen t s v d a

-- for every itinerary a leading pair departs no earlier and arrives no later
abbrev pub PairsCover : Type 0
PairsCover = (t : Table) → Lawful t → (s v : ℕ) → v < stations t → (d a : ℤ) → Travels t s v d a → (d' : ℤ) × (a' : ℤ) × LeadingPair t s v d' a' × (d ≤ℤ d') × (a' ≤ℤ a)

-- for every itinerary even an unbeaten pair does so
abbrev pub UnbeatenCover : Type 0
UnbeatenCover = (t : Table) → Lawful t → (s v : ℕ) → v < stations t → (d a : ℤ) → Travels t s v d a → (d' : ℤ) × (a' : ℤ) × Unbeaten t s v d' a' × (d ≤ℤ d') × (a' ≤ℤ a)

-- where any itinerary leads to the target, an unbeaten pair departs in every period
abbrev pub UnbeatenAlways : Type 0
UnbeatenAlways = (t : Table) → Lawful t → (s v : ℕ) → v < stations t → (d a : ℤ) → Travels t s v d a → (k : ℤ) → (x : ℕ) × (y : ℤ) × (x < t.period) × Unbeaten t s v (moved t x k) y

-- the first unbeaten pair at or after a moment arrives no later than any itinerary that leaves then or later
abbrev pub FirstUnbeaten : Type 0
FirstUnbeaten = (t : Table) → Lawful t → (s v : ℕ) → v < stations t → (n d a : ℤ) → Unbeaten t s v d a → n ≤ℤ d → ((d' a' : ℤ) → Unbeaten t s v d' a' → n ≤ℤ d' → d ≤ℤ d') → (d' a' : ℤ) → Travels t s v d' a' → n ≤ℤ d' → a ≤ℤ a'
