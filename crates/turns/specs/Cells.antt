-- Rows in a list, and what is written into them.
use Rattle.std.specs.Prelude.{◌≡◌, ℕ, ◌+◌, ◌*◌, ◌<◌, ◌≤◌, Bool, List, length, drop, MatchBool, ◌≢◌, slice_index_or}
use Rattle.timetable.specs.declared.label.Label.{Label}
use Rattle.timetable.specs.Rows.{blank}

-- row i's first entry, and its entry for place p, where a row has w entries
abbrev pub head_at : ℕ → List Label → ℕ → Label
head_at w memory i = slice_index_or memory (i * w) blank

abbrev pub cell_at : ℕ → List Label → ℕ → ℕ → Label
cell_at w memory i p = slice_index_or memory (i * w + (1 + p)) blank

-- r tells whether some rank from i on has an entry at place p
abbrev pub Settled : ℕ → (ℕ → ℕ → Label) → ℕ → ℕ → Bool → Type 0
Settled m cells i p r = MatchBool r
    ((j : ℕ) × (i ≤ j) × (j < m) × ((cells j p).minute ≢ 4294967295))
    ((j : ℕ) → i ≤ j → j < m → (cells j p).minute ≡ 4294967295)

-- a part of a list is blank, and the rest as it was
pub record Blanked (from to : ℕ) (before after : List Label) : Type 0 where
  pub same_length : length after ≡ length before
  pub earlier : (k : ℕ) → k < from → slice_index_or after k blank ≡ slice_index_or before k blank
  pub blanks : (k : ℕ) → from ≤ k → k < to → slice_index_or after k blank ≡ blank
  pub later : (n : ℕ) → to ≤ n → drop n after ≡ drop n before

-- row i has been given its head and blank entries
pub record RowOpened (w i : ℕ) (head : Label) (before after : List Label) : Type 0 where
  pub same_length : length after ≡ length before
  pub earlier : (k : ℕ) → k < i * w → slice_index_or after k blank ≡ slice_index_or before k blank
  pub heads : head_at w after i ≡ head
  pub blanks : (p : ℕ) → 1 + p < w → cell_at w after i p ≡ blank
  pub later : (n : ℕ) → i * w + w ≤ n → drop n after ≡ drop n before
