-- A bit for each of 256 buckets, in four words of 64.
use Rattle.std.specs.Prelude.{◌≡◌, ℕ, ◌/◌, ◌%◌, ◌<◌, ◌≤◌, List, slice_index}
use Rattle.std.specs.Int.{bit_at}

abbrev pub occupied : List ℕ → ℕ → ℕ
occupied words b = bit_at (slice_index words (b / 64)) (b % 64)

-- f is 0 from `from` up to `to`
abbrev pub Clear : (ℕ → ℕ) → ℕ → ℕ → Type 0
Clear f from to = (k : ℕ) → from ≤ k → k < to → f k ≡ 0

-- t is the first place from `from` on, below `end`, at which f is 1
pub record First (f : ℕ → ℕ) (from end t : ℕ) : Type 0 where
  pub from_on : from ≤ t
  pub below : t < end
  pub one : f t ≡ 1
  pub before : Clear f from t
