-- An order by one number and, where that ties, by a rest: laws for a chain of such keys. The kinds of entry have their
-- laws from std's orders now; these say the same of the definitions.
use Rattle.std.proofs.Common.{◌≡◌, ℕ, ◌<◌, Bool, true, false, ◌⊎◌, nat_lt, arith, rules}
use Rattle.entries.specs.Kinds.{first_by}

-- a strict order r, which tells apart all but what T relates
pub record Rests {X : Type 0} (r : X → X → Bool) (T : X → X → Type 0) : Type 0 where
  pub strict : (x y : X) → r x y ≡ true → r y x ≡ false
  pub chain : (x y z : X) → r x y ≡ true → r y z ≡ true → r x z ≡ true
  pub ties : (x y : X) → r x y ≡ false → r y x ≡ false → T x y

-- what the tests on two numbers say of one another
pub strict_lt : (a b : ℕ) → nat_lt a b ≡ true → nat_lt b a ≡ false
strict_lt a b p = grind (arith, rules)

pub chain_lt : (a b c : ℕ) → nat_lt a b ≡ true → nat_lt b c ≡ true → nat_lt a c ≡ true
chain_lt a b c p q = grind (arith, rules)

-- no Bool is both true and false
pub clash : {P : Type 0} (t : Bool) → t ≡ true → t ≡ false → P
clash t p q = cc

pub ties_lt : (a b : ℕ) → nat_lt a b ≡ false → nat_lt b a ≡ false → a ≡ b
ties_lt a b p q = grind (arith, rules)

-- first_by where a is below b, where they are equal, and where b is below a
pub first_below : (a b : ℕ) (r : Bool) → a < b → first_by a b r ≡ true
first_below a b r h = grind (arith, rules)

pub first_tied : (a b : ℕ) (r : Bool) → a ≡ b → first_by a b r ≡ r
first_tied a b r e = grind (arith, rules)

pub first_above : (a b : ℕ) (r : Bool) → b < a → first_by a b r ≡ false
first_above a b r h = grind (arith, rules)

-- what first_by's answer says of the numbers and the rest
pub says : (a b : ℕ) (r : Bool) → first_by a b r ≡ true → ((a ≡ b) × (r ≡ true)) ⊎ (a < b)
says a b r p = grind (arith, rules)

pub denies : (a b : ℕ) (r : Bool) → first_by a b r ≡ false → ((a ≡ b) × (r ≡ false)) ⊎ (b < a)
denies a b r p = grind (arith, rules)

pub strict_first : (a b : ℕ) (r s : Bool) → (r ≡ true → s ≡ false) → first_by a b r ≡ true → first_by b a s ≡ false
strict_first a b r s h p = grind (arith, rules)

pub chain_first : (a b c : ℕ) (r s t : Bool) → (r ≡ true → s ≡ true → t ≡ true) → first_by a b r ≡ true → first_by b c s ≡ true → first_by a c t ≡ true
chain_first a b c r s t h p q = grind (arith, rules)

pub ties_first : (a b : ℕ) (r s : Bool) → first_by a b r ≡ false → first_by b a s ≡ false → (a ≡ b) × (r ≡ false) × (s ≡ false)
ties_first a b r s p q = grind (arith, rules)

module _ {X : Type 0} (n : X → ℕ) where
  pub last_up : Rests (λ x y. nat_lt (n x) (n y)) (λ x y. n x ≡ n y)
  last_up = record {
    strict = λ x y p. grind (arith, rules);
    chain = λ x y z p q. grind (arith, rules);
    ties = λ x y p q. grind (arith, rules);
  }

  pub last_down : Rests (λ x y. nat_lt (n y) (n x)) (λ x y. n x ≡ n y)
  last_down = record {
    strict = λ x y p. grind (arith, rules);
    chain = λ x y z p q. grind (arith, rules);
    ties = λ x y p q. grind (arith, rules);
  }

  module _ {r : X → X → Bool} {T : X → X → Type 0} (o : Rests r T) where
    pub then_up : Rests (λ x y. first_by (n x) (n y) (r x y)) (λ x y. (n x ≡ n y) × T x y)
    then_up = record {
      strict = λ x y p. let h = o.strict x y in grind (arith, rules);
      chain = λ x y z p q. let h = o.chain x y z in grind (arith, rules);
      ties = λ x y p q. let h = o.ties x y in (grind (arith, rules), h (grind (arith, rules)) (grind (arith, rules)));
    }

    pub then_down : Rests (λ x y. first_by (n y) (n x) (r x y)) (λ x y. (n x ≡ n y) × T x y)
    then_down = record {
      strict = λ x y p. let h = o.strict x y in grind (arith, rules);
      chain = λ x y z p q. let h = o.chain x y z in grind (arith, rules);
      ties = λ x y p q. let h = o.ties x y in (grind (arith, rules), h (grind (arith, rules)) (grind (arith, rules)));
    }
