-- A list as a binary tree: the children of the place p are 2 p + 1 and 2 p + 2.
--     Heaped      no child is ahead of its parent
--     Rising      so but for the entry at j, which may be ahead of its parent
--     Sinking     so but for the entry at j, of which a child may be ahead
--     Best        no child of j is ahead of the one at c
use Rattle.std.specs.Prelude.{◌≡◌, ℕ, ◌+◌, ◌*◌, ◌<◌, ◌≤◌, Bool, false, List, length, ◌≢◌, slice_index_or}

abbrev pub Child : ℕ → ℕ → Type 0
Child p k = (p * 2 + 1 ≤ k) × (k ≤ p * 2 + 2)

module _ {X : Type 0} (ahead : X → X → Bool) where
  unfoldable pub Heaped : List X → Type 0
  Heaped xs = (d : X) (p k : ℕ) → Child p k → k < length xs → ahead (slice_index_or xs k d) (slice_index_or xs p d) ≡ false

  unfoldable pub Rising : List X → ℕ → Type 0
  Rising xs j =
      ((d : X) (p k : ℕ) → Child p k → k < length xs → (k ≢ j) → ahead (slice_index_or xs k d) (slice_index_or xs p d) ≡ false)
      × ((d : X) (p k : ℕ) → Child p j → Child j k → k < length xs → ahead (slice_index_or xs k d) (slice_index_or xs p d) ≡ false)

  unfoldable pub Sinking : List X → ℕ → Type 0
  Sinking xs j =
      ((d : X) (p k : ℕ) → Child p k → k < length xs → (p ≢ j) → ahead (slice_index_or xs k d) (slice_index_or xs p d) ≡ false)
      × ((d : X) (p k : ℕ) → Child p j → Child j k → k < length xs → ahead (slice_index_or xs k d) (slice_index_or xs p d) ≡ false)

  unfoldable pub Best : List X → ℕ → ℕ → Type 0
  Best xs j c = (d : X) (k : ℕ) → Child j k → k < length xs → ahead (slice_index_or xs k d) (slice_index_or xs c d) ≡ false
