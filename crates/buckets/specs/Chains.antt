-- Chains of cells, by the index of the next: an index past the cells ends a chain.
--     nexts, entries     the two columns of a list of cells
--     Chain ns at is     the chain from `at` goes through the cells is, and ends
--     picked xs is       the entries at the places is
use Rattle.std.specs.Prelude.{◌≡◌, ℕ, suc, ◌<◌, ◌≤◌, Bool, true, false, ◌⊎◌, List, [], ◌∷◌, ◌++◌, map, length, take, drop, ◌≢◌, slice_index, slice_set}
use Rattle.std.specs.List.{AllByRecursion}
use Rattle.buckets.specs.declared.chain.Cell.{Cell}
use Rattle.queue.specs.Order.{inserted}

abbrev pub In : ℕ → List ℕ → Type 0
In i [] = ⊥
In i (k ∷ ks) = (i ≡ k) ⊎ In i ks

abbrev pub Chain : List ℕ → ℕ → List ℕ → Type 0
Chain ns at [] = length ns ≤ at
Chain ns at (i ∷ is) = (at ≡ i) × (i < length ns) × Chain ns (slice_index ns i) is

module _ {X : Type 0} where
  abbrev pub nexts : List (Cell X) → List ℕ
  nexts cs = map (λ (c : Cell X). c.next) cs

  abbrev pub entries : List (Cell X) → List X
  entries cs = map (λ (c : Cell X). c.entry) cs

  abbrev pub picked : List X → List ℕ → List X
  picked xs [] = []
  picked xs (i ∷ is) = take 1 (drop i xs) ++ picked xs is

  -- the first, if any, is not ahead of e
  abbrev pub Stops : (X → X → Bool) → X → List X → Type 0
  Stops ahead e [] = Unit {0}
  Stops ahead e (x ∷ xs) = ahead x e ≡ false

  -- at is the last cell of the chain is that e goes behind
  pub record Sought (ahead : X → X → Bool) (xs : List X) (is : List ℕ) (e : X) (at : ℕ) : Type 0 where
    pub pre : List ℕ
    pub suf : List ℕ
    pub parts : is ≡ pre ++ at ∷ suf
    pub passed : AllByRecursion (λ x. ahead x e ≡ true) (picked xs (pre ++ at ∷ []))
    pub stops : Stops ahead e (picked xs suf)

  -- the cell `new`, with the entry e, was put into the chain is, which then begins at `head`
  pub record Linked (ahead : X → X → Bool) (cs cs' : List (Cell X)) (is : List ℕ) (new : ℕ) (e : X) (head : ℕ) : Type 0 where
    pub js : List ℕ
    pub chain : Chain (nexts cs') head js
    pub holds : picked (entries cs') js ≡ inserted ahead e (picked (entries cs) is)
    pub from : (i : ℕ) → In i js → In i is ⊎ (i ≡ new)
    pub size : length js ≡ suc (length is)
    pub same : entries cs' ≡ slice_set (entries cs) new e
    pub frame : (j : ℕ) → (In j is → ⊥) → (j ≢ new) → slice_index (nexts cs') j ≡ slice_index (nexts cs) j
