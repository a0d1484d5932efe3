-- The order of a kind of entry, and lists in that order.
use Rattle.std.specs.Prelude.{◌≡◌, ℕ, ◌<◌, Bool, true, false, cond, List, [], ◌∷◌}
use Rattle.std.specs.List.{AllByRecursion}

-- what a kind of entry owes of its order; ahead x y: x is handed out strictly before y
pub record Sound {X : Type 0} (ahead : X → X → Bool) (minute_of : X → ℕ) : Type 0 where
  -- of two entries at most one is ahead of the other, and neither only where they are equal
  pub strict : (x y : X) → ahead x y ≡ true → ahead y x ≡ false
  pub chain : (x y z : X) → ahead x y ≡ true → ahead y z ≡ true → ahead x z ≡ true
  pub ties : (x y : X) → ahead x y ≡ false → ahead y x ≡ false → x ≡ y
  -- the earlier minute is ahead
  pub earlier : (x y : X) → minute_of x < minute_of y → ahead x y ≡ true

-- an entry put into a list that is in order
unfoldable pub inserted : {X : Type 0} → (X → X → Bool) → X → List X → List X
inserted ahead e [] = e ∷ []
inserted ahead e (x ∷ xs) = cond (ahead x e) (x ∷ inserted ahead e xs) (e ∷ x ∷ xs)

-- a bag, given as any list of its entries, in order
unfoldable pub sorted : {X : Type 0} → (X → X → Bool) → List X → List X
sorted ahead [] = []
sorted ahead (x ∷ xs) = inserted ahead x (sorted ahead xs)

-- no entry is ahead of one before it
abbrev pub Ascends : {X : Type 0} → (X → X → Bool) → List X → Type 0
Ascends ahead [] = Unit {0}
Ascends ahead (x ∷ xs) = AllByRecursion (λ y. ahead y x ≡ false) xs × Ascends ahead xs
