-- Pairs from m rows as they stand: what arrive and profile answer.
use Rattle.std.specs.Prelude.{◌≡◌, ℕ, ◌+◌, ◌*◌, ◌<◌, ◌≤◌, List, length, slice_index_or}
use Rattle.timetable.specs.declared.label.Label.{Label}
use Rattle.timetable.specs.declared.pair.Pair.{Pair}
use Rattle.timetable.specs.Table.{Table}
use Rattle.timetable.specs.Rows.{head, entry, blank}

-- row i's departure with its entry of the target v, moved on by k periods
pub record RowHas (t : Table) (memory : List Label) (v i k d a : ℕ) : Type 0 where
  pub reached : (entry t memory i v).minute ≡ blank.minute → ⊥
  pub departs : d ≡ (head t memory i).minute + k * t.period
  pub arrives : a ≡ (entry t memory i v).minute + k * t.period

pub record RowPair (t : Table) (m : ℕ) (memory : List Label) (v d a : ℕ) : Type 0 where
  pub row : ℕ
  pub periods : ℕ
  pub there : row < m
  pub has : RowHas t memory v row periods d a

-- no other pair of the rows departs no earlier and arrives no later
pub record RowUnbeaten (t : Table) (m : ℕ) (memory : List Label) (v d a : ℕ) : Type 0 where
  pub pair : RowPair t m memory v d a
  pub unbeaten : (d' a' : ℕ) → RowPair t m memory v d' a' → d ≤ d' → a' ≤ a → (d' ≡ d) × (a' ≡ a)

-- the first unbeaten pair that departs at n or later
pub record IsArrive (t : Table) (m : ℕ) (memory : List Label) (v n d a : ℕ) : Type 0 where
  pub unbeaten : RowUnbeaten t m memory v d a
  pub late_enough : n ≤ d
  pub first : (d' a' : ℕ) → RowUnbeaten t m memory v d' a' → n ≤ d' → d ≤ d'

abbrev pub pair : ℕ → ℕ → Pair
pair d a = record { departure = d; arrival = a }

abbrev pub pair_at : List Pair → ℕ → Pair
pair_at pairs k = slice_index_or pairs k (pair 0 0)

-- the unbeaten pairs that depart in the period, rising
pub record IsProfile (t : Table) (m : ℕ) (memory : List Label) (v : ℕ) (pairs : List Pair) : Type 0 where
  pub sound : (k : ℕ) → k < length pairs → ((pair_at pairs k).departure < t.period) × RowUnbeaten t m memory v (pair_at pairs k).departure (pair_at pairs k).arrival
  pub whole : (d a : ℕ) → d < t.period → RowUnbeaten t m memory v d a → (k : ℕ) × (k < length pairs) × (pair_at pairs k ≡ pair d a)
  pub rising : (j k : ℕ) → j < k → k < length pairs → (pair_at pairs j).departure < (pair_at pairs k).departure
