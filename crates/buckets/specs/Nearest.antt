-- The walk over the occupied buckets, by the minutes of their first entries.
use Rattle.std.specs.Prelude.{◌≡◌, ℕ, ◌<◌, ◌≤◌, List, slice_index, slice_index_or}
use Rattle.buckets.specs.declared.chain.Cell.{Cell}
use Rattle.buckets.specs.Bitmap.{occupied}
use Rattle.buckets.specs.Chains.{entries}

module _ {X : Type 0} (minute_of : X → ℕ) (cs : List (Cell X)) (bits first : List ℕ) where
  -- every first entry of a bucket has P
  abbrev pub Firsts : (ℕ → X → Type 0) → Type 0
  Firsts P = (k : ℕ) → k < 256 → occupied bits k ≡ 1 → (d : X) → P k (slice_index_or (entries cs) (slice_index first k) d)

  -- no first entry of the buckets from `from` up to `to` is before the minute `bound`
  abbrev pub Far : ℕ → ℕ → ℕ → Type 0
  Far bound from to = (k : ℕ) → from ≤ k → k < to → occupied bits k ≡ 1 → (d : X) → bound ≤ minute_of (slice_index_or (entries cs) (slice_index first k) d)

  -- b is the first bucket from `from` up to `to` whose first entry is before the minute `bound`
  pub record Near (bound from to b : ℕ) : Type 0 where
    pub from_on : from ≤ b
    pub below : b < to
    pub known : b < 256
    pub holds : occupied bits b ≡ 1
    pub near : (d : X) → minute_of (slice_index_or (entries cs) (slice_index first b) d) < bound
    pub before : Far bound from b
