-- What the queue of 256 buckets holds, and when it is in order.
use Rattle.std.specs.Prelude.{◌≡◌, ℕ, ◌+◌, ◌%◌, ◌<◌, ◌≤◌, Bool, false, List, [], ◌∷◌, ◌++◌, length, slice_index, slice_index_or}
use Rattle.std.specs.List.{AllByRecursion}
use Rattle.buckets.specs.declared.chain.Cell.{Cell}
use Rattle.buckets.specs.declared.buckets.Buckets.{Buckets}
use Rattle.buckets.specs.Bitmap.{occupied}
use Rattle.buckets.specs.Chains.{In, Chain, nexts, entries, picked}
use Rattle.buckets.specs.Pour.{walk, sizes, total}
use Rattle.queue.specs.Order.{Ascends}

-- the bit of a bucket says whether its chain begins in the cells
abbrev pub Marked : List ℕ → List ℕ → ℕ → Type 0
Marked bits first room = (b : ℕ) → b < 256 → (occupied bits b ≡ 1 → slice_index first b < room) × (occupied bits b ≡ 0 → room ≤ slice_index first b)

-- b is a bucket whose first entry no bucket's first entry is ahead of
pub record Leads {X : Type 0} (ahead : X → X → Bool) (cs : List (Cell X)) (bits first : List ℕ) (b : ℕ) : Type 0 where
  pub known : b < 256
  pub holds : occupied bits b ≡ 1
  pub best : (k : ℕ) → k < 256 → occupied bits k ≡ 1 → (d : X) → ahead (slice_index_or (entries cs) (slice_index first k) d) (slice_index_or (entries cs) (slice_index first b) d) ≡ false

-- an entry of bucket b: its minute chooses the bucket, and is not below the bound that the queue keeps
abbrev pub Lodged : {X : Type 0} → (X → ℕ) → ℕ → ℕ → X → Type 0
Lodged minute_of low b x = (minute_of x % 256 ≡ b) × (low ≤ minute_of x)

-- The chains of the 256 buckets, and as the 257th that of the cells given back, share no cell. Every cell below
-- `fresh`, but for `out` of them, is in one. P holds of every entry of a bucket.
pub record Fine {X : Type 0} (ahead : X → X → Bool) (P : ℕ → X → Type 0) (out : ℕ) (cs : List (Cell X)) (bits first : List ℕ) (free fresh len : ℕ) : Type 0 where
  pub chains : ℕ → List ℕ
  pub wide : length first ≡ 256
  pub starts : (b : ℕ) → b < 257 → Chain (nexts cs) (slice_index (first ++ free ∷ []) b) (chains b)
  pub apart : (b k i : ℕ) → b < 257 → k < 257 → In i (chains b) → In i (chains k) → b ≡ k
  pub below : (b i : ℕ) → b < 257 → In i (chains b) → i < fresh
  pub fits : fresh ≤ length cs
  pub count : sizes chains 257 + out ≡ fresh
  pub held : sizes chains 256 ≡ len
  pub rises : (b : ℕ) → b < 256 → Ascends ahead (picked (entries cs) (chains b))
  pub lodged : (b : ℕ) → b < 256 → AllByRecursion (P b) (picked (entries cs) (chains b))
  pub marks : Marked bits first (length cs)

-- the same, with the cell `new` in no chain
pub record Reserved {X : Type 0} (ahead : X → X → Bool) (P : ℕ → X → Type 0) (new : ℕ) (cs : List (Cell X)) (bits first : List ℕ) (free fresh len : ℕ) : Type 0 where
  pub fine : Fine ahead P 1 cs bits first free fresh len
  pub known : new < fresh
  pub loose : (b : ℕ) → b < 257 → In new (fine.chains b) → ⊥

module _ {X : Type 0} where
  abbrev pub in_cells : (X → X → Bool) → List (Cell X) → List ℕ → List X
  in_cells ahead cs first = total ahead (λ b. picked (entries cs) (walk (length cs) (nexts cs) (slice_index first b))) 256

  abbrev pub bucket_room : Buckets X → ℕ
  bucket_room q = length q.cells.now

  abbrev pub bucket_bag : (X → X → Bool) → Buckets X → List X
  bucket_bag ahead q = in_cells ahead q.cells.now q.heads.first

  abbrev pub BucketFine : (X → X → Bool) → (X → ℕ) → Buckets X → Type 0
  BucketFine ahead minute_of q = Fine ahead (Lodged minute_of q.low) 0 q.cells.now q.heads.bits q.heads.first q.free q.fresh q.len

  abbrev pub BucketReserved : (X → X → Bool) → (X → ℕ) → ℕ → Buckets X → Type 0
  BucketReserved ahead minute_of new q = Reserved ahead (Lodged minute_of q.low) new q.cells.now q.heads.bits q.heads.first q.free q.fresh q.len
