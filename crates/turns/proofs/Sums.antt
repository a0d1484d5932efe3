-- Sums over rows and places.
use Rattle.std.proofs.Common.{◌≡◌, ℕ, zero, suc, ◌+◌, ◌*◌, ◌<◌, ◌≤◌, refl, ap, inl, inr, arith}
use Rattle.std.proofs.lemmas.Bool.{cases_eq}
use Rattle.turns.specs.Counts.{sum_to, grid}

sum_same : (f g : ℕ → ℕ) (n : ℕ) → ((i : ℕ) → i < n → f i ≡ g i) → sum_to f n ≡ sum_to g n
unfolding sum_to
sum_same f g zero h = refl
sum_same f g (suc n) h = omega (arith, h n (omega arith), sum_same f g n (λ i k. h i (omega arith)))

-- two sums that differ at k alone
sum-at : (f g : ℕ → ℕ) (k n : ℕ) → k < n → ((i : ℕ) → i < n → (i ≡ k → ⊥) → f i ≡ g i) → sum_to f n + g k ≡ sum_to g n + f k
unfolding sum_to
sum-at f g k zero h e = absurd (omega arith)
sum-at f g k (suc n) h e = elim (cases_eq n k) [
  | inl q ↦ omega (arith, ap f q, ap g q, sum_same f g n (λ i l. e i (omega arith) (λ z. omega arith)))
  | inr q ↦ omega (arith, e n (omega arith) q, sum-at f g k n (omega arith) (λ i l. e i (omega arith)))
]

pub grid-at : (f g : ℕ → ℕ → ℕ) (i p m n : ℕ) → i < m → p < n → ((j q : ℕ) → j < m → q < n → (j ≡ i → q ≡ p → ⊥) → f j q ≡ g j q) → grid f m n + g i p ≡ grid g m n + f i p
unfolding grid
grid-at f g i p m n hi hp e = omega (
  arith,
  sum-at (λ j. sum_to (f j) n) (λ j. sum_to (g j) n) i m hi (λ j l k. sum_same (f j) (g j) n (λ q r. e j q l r (λ z _. k z))),
  sum-at (f i) (g i) p n hp (λ q r k. e i q hi r (λ _ z. k z)),
)

sum_bound : (f : ℕ → ℕ) (n b : ℕ) → ((i : ℕ) → i < n → f i ≤ b) → sum_to f n ≤ n * b
unfolding sum_to
sum_bound f zero b h = omega arith
sum_bound f (suc n) b h = omega (arith, h n (omega arith), sum_bound f n b (λ i k. h i (omega arith)))

-- a sum whose terms are at most b
pub grid_bound : (f : ℕ → ℕ → ℕ) (m n b : ℕ) → ((i p : ℕ) → i < m → p < n → f i p ≤ b) → grid f m n ≤ m * (n * b)
unfolding grid
grid_bound f m n b h = sum_bound (λ i. sum_to (f i) n) m (n * b) (λ i k. sum_bound (f i) n b (λ p l. h i p k l))
