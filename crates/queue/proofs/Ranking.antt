-- An order of std's, in which each entry ties with itself alone, as the order of a kind of entry.
use Rattle.std.proofs.Common.{◌≡◌, ℕ, ◌<◌, Bool, true, false, ◌&&◌, ◌||◌, ◌==◌, nat_lt, Ordering, Less, Equal, Greater, is_lt, nat_cmp, refl, sym, ap, ◌∙◌, arith, rules}
use Rattle.std.specs.Ordering.{ordering_reverse, ordering_then}
use Rattle.std.specs.Cmp.{IsTotalOrder}
use Rattle.std.specs.Cmp.Rules.{comparing}
use Rattle.std.proofs.lemmas.Map.Lookups.{exact_unsigned}
use Rattle.queue.specs.Order.{Sound}

-- a test by a number, and by a number and then a rest, in std's words
pub lower : (a b : ℕ) → nat_lt a b ≡ is_lt (nat_cmp a b)
lower a b = search (arith, rules)

pub lower_then : (a b : ℕ) (t : Bool) (r : Ordering) → t ≡ is_lt r → (nat_lt a b || (a == b && t)) ≡ is_lt (ordering_then (nat_cmp a b) r)
lower_then a b t r e = search (arith, rules)

-- what ties, and what a lower number decides
pub tied_then : (a b : ℕ) (r : Ordering) → ordering_then (nat_cmp a b) r ≡ Equal → (a ≡ b) × (r ≡ Equal)
tied_then a b r e = search (arith, rules)

pub less_then : (a b : ℕ) (r : Ordering) → a < b → ordering_then (nat_cmp a b) r ≡ Less
less_then a b r h = search (arith, rules)

less : (r : Ordering) → is_lt r ≡ true → r ≡ Less
less r p = grind (arith, rules)

strict : (r s : Ordering) → r ≡ ordering_reverse s → is_lt r ≡ true → is_lt s ≡ false
strict r s e p = grind (arith, rules)

level : (r s : Ordering) → r ≡ ordering_reverse s → is_lt r ≡ false → is_lt s ≡ false → r ≡ Equal
level r s e p q = grind (arith, rules)

pub sound_of : {X : Type 0} {ahead : X → X → Bool} {minute_of : X → ℕ} (R : X → X → Ordering) → IsTotalOrder R → ((x y : X) → ahead x y ≡ is_lt (R x y)) → ((x y : X) → R x y ≡ Equal → x ≡ y) → ((x y : X) → minute_of x < minute_of y → R x y ≡ Less) → Sound ahead minute_of
sound_of R o is ties earlier = record {
  strict = λ x y p. is y x ∙ strict (R x y) (R y x) (o.antisymm x y) (sym (is x y) ∙ p);
  chain = λ x y z p q. is x z ∙ ap is_lt (o.trans x y z (less (R x y) (sym (is x y) ∙ p)) (less (R y z) (sym (is y z) ∙ q)));
  ties = λ x y p q. ties x y (level (R x y) (R y x) (o.antisymm x y) (sym (is x y) ∙ p) (sym (is y x) ∙ q));
  earlier = λ x y h. is x y ∙ ap is_lt (earlier x y h);
}

-- what `search` needs to find the last four premises of `sound_of` at a chain of numbers
pub ruleset ranking = (comparing, lower, lower_then, tied_then, exact_unsigned, less_then, rules)
