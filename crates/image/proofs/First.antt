-- The first fault among places: a loop's steps, and what it says of each record_at.
use Rattle.std.proofs.Common.{◌≡◌, ℕ, zero, suc, ◌+◌, ◌-◌, ◌<◌, ◌≤◌, Some, None, Option, refl, ap, ◌∙◌, add-zero, arith}
use Rattle.refusals.specs.declared.refusal.Refusal.{Refusal}
use Rattle.image.specs.Format.{or_else, first}

module _ (f : ℕ → Option Refusal) where
  -- at a record_at that is left
  pub first_left : (i n : ℕ) → i < n → first f i (n - i) ≡ or_else (f i) (first f (i + 1) (n - (i + 1)))
  first_left i n h = let e : n - i ≡ suc (n - (i + 1)) = omega arith in rw e

  pub first_on : (i n : ℕ) → i < n → f i ≡ None → first f i (n - i) ≡ first f (i + 1) (n - (i + 1))
  first_on i n h e = first_left i n h ∙ ap (λ o. or_else o (first f (i + 1) (n - (i + 1)))) e

  pub first_here : (i n : ℕ) (r : Refusal) → i < n → f i ≡ Some r → first f i (n - i) ≡ Some r
  first_here i n r h e = first_left i n h ∙ ap (λ o. or_else o (first f (i + 1) (n - (i + 1)))) e

  pub first_end : (i n : ℕ) → n ≤ i → first f i (n - i) ≡ None
  first_end i n h = let e : n - i ≡ 0 = omega arith in rw e

-- what no fault means
pub or_left : (o p : Option Refusal) → or_else o p ≡ None → o ≡ None
or_left None p e = refl
or_left (Some r) p e = e

pub or_right : (o p : Option Refusal) → or_else o p ≡ None → p ≡ None
or_right None p e = e
or_right (Some r) p e = let z : ◌≡◌ {A = ℕ} 0 1 = cc in absurd (omega arith)

pub or_none : (o p : Option Refusal) → o ≡ None → p ≡ None → or_else o p ≡ None
or_none o p e h = rw (e, h)

pub first-each : (f : ℕ → Option Refusal) (i n : ℕ) → first f i n ≡ None → (k : ℕ) → k < n → f (i + k) ≡ None
first-each f i zero e k h = absurd (omega arith)
first-each f i (suc n) e zero h = rw add-zero (or_left (f i) (first f (i + 1) n) e)
first-each f i (suc n) e (suc k) h =
    let s : i + 1 + k ≡ i + suc k = omega arith in
    rw s at (first-each f (i + 1) n (or_right (f i) (first f (i + 1) n) e) k (omega arith))

pub first_none : (f : ℕ → Option Refusal) (i n : ℕ) → ((k : ℕ) → k < n → f (i + k) ≡ None) → first f i n ≡ None
first_none f i zero h = refl
first_none f i (suc n) h =
    or_none (f i) (first f (i + 1) n) (rw add-zero at (h 0 (omega arith)))
    (first_none f (i + 1) n (λ k l. let s : i + 1 + k ≡ i + suc k = omega arith in rw s (h (suc k) (omega arith))))
