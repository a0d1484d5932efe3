-- How many notices stand, where what is said of one train changes.
use Rattle.std.proofs.Common.{◌≡◌, ℕ, zero, suc, ◌+◌, ◌<◌, ◌≢◌, sym, refl, ap, None, Option, inl, inr, arith}
use Rattle.std.proofs.lemmas.Bool.{cases_eq}
use Rattle.timetable.specs.declared.report.Report.{Report}
use Rattle.notices.specs.Slots.{weight}
use Rattle.law.specs.Book.{noted_below}

same_below : (f g : ℕ → Option Report) (n : ℕ) → ((y : ℕ) → y < n → f y ≡ g y) → noted_below f n ≡ noted_below g n
unfolding noted_below
same_below f g zero h = refl
same_below f g (suc n) h = omega (arith, ap weight (h n (omega arith)), same_below f g n (λ y l. h y (omega arith)))

pub changed_once : (f g : ℕ → Option Report) (n z : ℕ) → z < n → ((y : ℕ) → y ≢ z → g y ≡ f y) → noted_below g n + weight (f z) ≡ noted_below f n + weight (g z)
unfolding noted_below
changed_once f g zero z l h = absurd (omega arith)
changed_once f g (suc n) z l h = elim (cases_eq z n) [
  | inl e ↦ omega (arith, same_below g f n (λ y k. h y (λ q. omega arith)), ap (λ y. weight (f y)) e, ap (λ y. weight (g y)) e)
  | inr k ↦ omega (arith, changed_once f g n z (omega (arith, k)) h, ap weight (h n (λ q. k (sym q))))
]

pub none_noted : (n : ℕ) → noted_below (λ _. None) n ≡ 0
unfolding noted_below
none_noted zero = refl
none_noted (suc n) = omega (arith, none_noted n)
