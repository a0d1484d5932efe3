-- Rows that no search wrote, and rows that reach a target.
use Rattle.std.specs.Prelude.{◌≡◌, ℕ, ◌+◌, ◌*◌, ◌<◌, ◌≤◌, List, ◌≢◌, slice_index_or}
use Rattle.timetable.specs.declared.label.Label.{Label}
use Rattle.timetable.specs.Table.{Table}
use Rattle.timetable.specs.Rows.{width, entry, blank}

-- in rows of so many entries: row i's departure, and the minute of its entry of station v
abbrev pub departure_in : ℕ → List Label → ℕ → ℕ
departure_in width memory i = (slice_index_or memory (i * width) blank).minute

abbrev pub minute_in : ℕ → List Label → ℕ → ℕ → ℕ
minute_in width memory i v = (slice_index_or memory (i * width + (1 + v)) blank).minute

-- no search wrote row i: it departs past the period, or before the row before it; or its entry of the target v is no
-- blank and no minute above its departure and at most 400,000,000
pub data ForeignRow (period width : ℕ) (memory : List Label) (v i : ℕ) : Type 0 where
  late : period ≤ departure_in width memory i → ForeignRow period width memory v i
  falls : (j : ℕ) → i ≡ j + 1 → departure_in width memory i < departure_in width memory j → ForeignRow period width memory v i
  early : (minute_in width memory i v ≢ blank.minute) → minute_in width memory i v ≤ departure_in width memory i → ForeignRow period width memory v i
  far : (minute_in width memory i v ≢ blank.minute) → 400000000 < minute_in width memory i v → ForeignRow period width memory v i

abbrev pub Foreign : Table → List Label → ℕ → ℕ → Type 0
Foreign t memory v i = ForeignRow t.period (width t) memory v i

-- none of the rows below m is such a row
abbrev pub AllOwn : Table → ℕ → List Label → ℕ → Type 0
AllOwn t m memory v = (i : ℕ) → i < m → Foreign t memory v i → ⊥

-- row i is the first such row
pub record FirstForeign (t : Table) (m : ℕ) (memory : List Label) (v i : ℕ) : Type 0 where
  pub there : i < m
  pub foreign : Foreign t memory v i
  pub first : AllOwn t i memory v

-- row i has an entry for the target v
abbrev pub Reached : Table → List Label → ℕ → ℕ → Type 0
Reached t memory v i = (entry t memory i v).minute ≡ blank.minute → ⊥

-- no row has an entry for the target
abbrev pub NoRow : Table → ℕ → List Label → ℕ → Type 0
NoRow t m memory v = (i : ℕ) → i < m → (entry t memory i v).minute ≡ blank.minute
