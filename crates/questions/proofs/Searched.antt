-- The first row below a number at which a closure answers true, where its answers decide a fact.
use Rattle.std.proofs.Common.{◌≡◌, ℕ, ◌≤◌, ◌<◌, Bool, true, false, List, Option, MatchBool, MatchOption}
use Rattle.std.specs.Bool.{⊤}
use Rattle.std.specs.Fn.{CalledAt}
use Rattle.std.specs.List.{FoldsTo}
use Rattle.std.specs.Iterator.{YieldsThen}
use Rattle.std.specs.declared.ops.Range.{Range}
use Rattle.std.proofs.iter.Yields.{nat_range_steps}
use Rattle.std.proofs.lemmas.Iterator.{first_from_Range}
use denote.Param.Members.{Mut}
use denote.Ref.{Bor}

pub first_decided : {F : Type 0} {g : Mut F (Bor ℕ × Unit {0}) Bool} (s u : Range ℕ) (f : F) (r : Option ℕ) (P : ℕ → Type 0)
    → (xs : List ℕ) × (j : F) × YieldsThen nat_range_steps s xs r u × FoldsTo (λ p x q. CalledAt g p x false q) f xs j × MatchOption r ⊤ (λ x. (h : F) × CalledAt g j x true h)
    → ((x : ℕ) (b : Bool) (q : F) → CalledAt g f x b q → (q ≡ f) × MatchBool b (P x) (P x → ⊥))
    → MatchOption r ((k : ℕ) → s.start ≤ k → k < s.end → P k → ⊥) (λ i. (s.start ≤ i) × (i < s.end) × P i × ((k : ℕ) → s.start ≤ k → k < i → P k → ⊥))
first_decided s u f r P d h = first_from_Range s u f r P (λ i. P i → ⊥) d (λ x q k. (h x true q k).1) (λ x q k. h x false q k)

pub same_answer : (b r : Bool) (P Q : Type 0) → b ≡ r → MatchBool r P Q → MatchBool b P Q
same_answer b r P Q e h = rw e h
