-- `try_for_each` over the numbers below n, where the call at each tells its fault: it answers the first.
use Rattle.std.proofs.Common.{◌≡◌, ℕ, ◌+◌, ◌-◌, ◌<◌, List, [], ◌∷◌, Some, None, Ok, Err, Option, Result, MatchOption, refl, sym, ap, ◌∙◌, subst, arith}
use denote.Param.Members.{Mut, Called}
use Rattle.std.specs.declared.ops.Range.{Range}
use Rattle.std.below.core.specs.declared.result.ErrResidual.{ErrResidual}
use Rattle.std.specs.Iterator.{Yields}
use Rattle.std.specs.List.{FoldsTo}
use Rattle.std.specs.Result.{IsErr, IsErrAnd}
use Rattle.std.proofs.iter.Yields.{nat_range_steps}
use Rattle.std.proofs.lemmas.Result.{err_from_is_err_and}
use Rattle.refusals.specs.declared.refusal.Refusal.{Refusal}
use Rattle.image.specs.Format.{first, Tells}
use Rattle.image.proofs.First.{first_on, first_here, first_end}

module _ {F : Type 0} (g : Mut F (ℕ × Unit {0}) (Result (Unit {0}) Refusal)) (f : F) (fault : ℕ → Option Refusal) (n : ℕ) (each : (x : ℕ) (r : Result (Unit {0}) Refusal) (q : F) → x < n → Called g f (x, tt) r q → (q ≡ f) × Tells (fault x) r) where
  -- what is left of a range
  left : Range ℕ → Option Refusal
  left s = first fault s.start (s.end - s.start)

  -- a call that went on
  abbrev pub GoesOn : F → ℕ → F → Type 0
  GoesOn p x q = (v : Result (Unit {0}) Refusal) × Called g p (x, tt) v q × (v ≡ Ok tt)

  called : (p : F) → p ≡ f → (x : ℕ) (r : Result (Unit {0}) Refusal) (q : F) → x < n → Called g p (x, tt) r q → (q ≡ f) × Tells (fault x) r
  called p e x r q l h = each x r q l (subst (λ s. Called g s (x, tt) r q) e h)

  -- the calls that went on
  passed : (xs : List ℕ) (s t : Range ℕ) (p q : F) → p ≡ f → s.end ≡ n → Yields nat_range_steps s xs t → FoldsTo GoesOn p xs q → (q ≡ f) × (t.end ≡ n) × (left s ≡ left t)
  unfolding left
  passed [] s t p q e m y o = (sym o ∙ e, ap (λ (k : Range ℕ). k.end) (sym y) ∙ m, ap left y)
  passed (x ∷ xs) s t p q e m y o =
      let l : s.start < s.end = omega (arith, y.1.1.0) in
      let h = called p e x o.1.0 o.0 (omega (arith, y.1.1.1, m)) o.1.1 in
      let none : fault x ≡ None = subst (Tells (fault x)) o.1.2 h.1 in
      let rest = passed xs y.0 t o.0 q h.0 (y.1.0 ∙ m) y.2 o.2 in
      let here = first_on fault s.start s.end l (ap fault (sym y.1.1.1) ∙ none) in
      let on : first fault (s.start + 1) (s.end - (s.start + 1)) ≡ left y.0 = ap (λ k. first fault k (s.end - k)) (sym y.1.1.2) ∙ ap (λ k. first fault y.0.start (k - y.0.start)) (sym y.1.0) in
      (rest.0, rest.1, here ∙ (on ∙ rest.2))

  -- the call that did not, or the end
  last : (t u : Range ℕ) (q : F) (o : Option ℕ) (r : Result (Unit {0}) Refusal) → q ≡ f → t.end ≡ n → nat_range_steps t o u → MatchOption o (r ≡ Ok tt) (λ x. (v : Result (Unit {0}) Refusal) × (h : F) × (e : ErrResidual Refusal) × Called g q (x, tt) v h × (v ≡ Err e.0) × (IsErr r × IsErrAnd r (λ y. y ≡ e.0))) → Tells (left t) r
  unfolding left
  last t u q None r e m step end = subst (Tells (left t)) (sym end) (first_end fault t.start t.end (omega (arith, step.1.0)))
  last t u q (Some x) r e m step (v, p, d, k, w, z) =
      let h = called q e x v p (omega (arith, step.1.0, step.1.1, m)) k in
      let found : fault x ≡ Some d.0 = subst (Tells (fault x)) w h.1 in
      let b = err_from_is_err_and r z.1 in
      subst (Tells (left t)) (sym (b.1 ∙ ap Err b.2)) (first_here fault t.start t.end d.0 (omega (arith, step.1.0)) (ap fault (sym step.1.1) ∙ found))

  pub tried : (r : Result (Unit {0}) Refusal) (u : Range ℕ) → (xs : List ℕ) × (o : Option ℕ) × (q : F) × ((t : Range ℕ) × Yields nat_range_steps record { start = 0; end = n } xs t × nat_range_steps t o u) × FoldsTo GoesOn f xs q
      × MatchOption o (r ≡ Ok tt) (λ x. (v : Result (Unit {0}) Refusal) × (h : F) × (e : ErrResidual Refusal) × Called g q (x, tt) v h × (v ≡ Err e.0) × (IsErr r × IsErrAnd r (λ y. y ≡ e.0)))
      → Tells (first fault 0 n) r
  unfolding left
  tried r u (xs, o, q, (t, y, step), calls, end) =
      let h = passed xs record { start = 0; end = n } t f q refl refl y calls in
      let z : n ≡ n - 0 = omega arith in
      subst (λ a. Tells a r) (sym (ap (first fault 0) z ∙ h.2)) (last t u q o r h.0 h.1 step end)
