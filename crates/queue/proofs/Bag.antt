-- Laws of `inserted` and `sorted`: a bag has one list in order.
use Rattle.std.proofs.Common.{◌≡◌, ℕ, zero, suc, ◌<◌, Bool, true, false, cond, List, [], ◌∷◌, ◌++◌, length, get_or, set, sym, refl, ap, ◌∙◌, subst, ⊎_elim, le_of_suc-le-suc, not-suc-le-zero, arith}
use Rattle.std.specs.List.{AllByRecursion}
use Rattle.std.proofs.lemmas.Bool.{both_ways, cond-true, cond-false, cases_Bool}
use Rattle.std.proofs.lemmas.List.{get_or-set_same, get_or-set_other, set-set, length-set}
use Rattle.std.proofs.ByRecursion.{All-weaker}
use Rattle.queue.specs.Order.{Sound, inserted, sorted, Ascends}

module _ {X : Type 0} {ahead : X → X → Bool} {minute_of : X → ℕ} (o : Sound ahead minute_of) where
  pub never : (x : X) → ahead x x ≡ false
  never x = ⊎_elim (λ t. o.strict x x t) (λ f. f) (cases_Bool (ahead x x))

  -- not ahead is transitive
  pub behind : (x y z : X) → ahead x y ≡ false → ahead y z ≡ false → ahead x z ≡ false
  behind x y z p q = ⊎_elim (λ t. absurd (⊎_elim (λ u. both_ways (ahead y z) q (o.chain y x z u t))
      (λ u. both_ways (ahead y z) q (subst (λ w. ahead w z ≡ true) (o.ties x y p u) t)) (cases_Bool (ahead y x)))) (λ f. f) (cases_Bool (ahead x z))

  -- what is not ahead of y is not ahead of what is ahead of y
  pub behind_ahead : (x y z : X) → ahead x y ≡ true → ahead z y ≡ false → ahead z x ≡ false
  behind_ahead x y z p q = ⊎_elim (λ t. absurd (both_ways (ahead z y) q (o.chain z x y t p))) (λ f. f) (cases_Bool (ahead z x))

  pub inserted_past : (e x : X) (xs : List X) → ahead x e ≡ true → inserted ahead e (x ∷ xs) ≡ x ∷ inserted ahead e xs
  unfolding inserted
  inserted_past e x xs t = cond-true _ _ _ t

  pub inserted_here : (e x : X) (xs : List X) → ahead x e ≡ false → inserted ahead e (x ∷ xs) ≡ e ∷ x ∷ xs
  unfolding inserted
  inserted_here e x xs f = cond-false _ _ _ f

  two : (a b : X) (xs : List X) → ahead a b ≡ false → ahead b a ≡ false → a ∷ b ∷ xs ≡ b ∷ a ∷ xs
  two a b xs p q = let e = o.ties a b p q in λ k. e k ∷ sym e k ∷ xs

  both_here : (a b x : X) (xs : List X) → ahead x a ≡ false → ahead x b ≡ false → inserted ahead a (b ∷ x ∷ xs) ≡ inserted ahead b (a ∷ x ∷ xs)
  both_here a b x xs p q = ⊎_elim
      (λ t. inserted_past a b (x ∷ xs) t ∙ ap (λ l. b ∷ l) (inserted_here a x xs p) ∙ sym (inserted_here b a (x ∷ xs) (o.strict b a t)))
      (λ f. ⊎_elim
      (λ t. inserted_here a b (x ∷ xs) f ∙ sym (inserted_past b a (x ∷ xs) t ∙ ap (λ l. a ∷ l) (inserted_here b x xs q)))
      (λ g. inserted_here a b (x ∷ xs) f ∙ two a b (x ∷ xs) g f ∙ sym (inserted_here b a (x ∷ xs) g))
      (cases_Bool (ahead a b)))
      (cases_Bool (ahead b a))

  -- of two that go into a list whose first is ahead of the one alone
  between : (a b x : X) (xs : List X) → ahead x a ≡ false → ahead x b ≡ true → inserted ahead a (x ∷ inserted ahead b xs) ≡ inserted ahead b (a ∷ x ∷ xs)
  between a b x xs p q =
      let t : ahead a b ≡ true = ⊎_elim (λ t. t) (λ f. absurd (both_ways (ahead x b) (behind x a b p f) q)) (cases_Bool (ahead a b)) in
      inserted_here a x (inserted ahead b xs) p ∙ sym (inserted_past b a (x ∷ xs) t ∙ ap (λ l. a ∷ l) (inserted_past b x xs q))

  -- the order of two insertions does not matter
  pub inserted_comm : (a b : X) (xs : List X) → inserted ahead a (inserted ahead b xs) ≡ inserted ahead b (inserted ahead a xs)
  unfolding inserted
  inserted_comm a b [] = ⊎_elim
      (λ t. inserted_past a b [] t ∙ sym (inserted_here b a [] (o.strict b a t)))
      (λ f. ⊎_elim
      (λ t. inserted_here a b [] f ∙ sym (inserted_past b a [] t))
      (λ g. inserted_here a b [] f ∙ two a b [] g f ∙ sym (inserted_here b a [] g))
      (cases_Bool (ahead a b)))
      (cases_Bool (ahead b a))
  inserted_comm a b (x ∷ xs) =
      let ih = inserted_comm a b xs in ⊎_elim
      (λ p. ⊎_elim
      (λ q. ap (inserted ahead a) (inserted_past b x xs q) ∙ inserted_past a x (inserted ahead b xs) p ∙ ap (λ l. x ∷ l) ih ∙ sym (ap (inserted ahead b) (inserted_past a x xs p) ∙ inserted_past b x (inserted ahead a xs) q))
      (λ q. ap (inserted ahead a) (inserted_here b x xs q) ∙ sym (between b a x xs q p) ∙ sym (ap (inserted ahead b) (inserted_past a x xs p)))
      (cases_Bool (ahead x b)))
      (λ p. ⊎_elim
      (λ q. ap (inserted ahead a) (inserted_past b x xs q) ∙ between a b x xs p q ∙ sym (ap (inserted ahead b) (inserted_here a x xs p)))
      (λ q. ap (inserted ahead a) (inserted_here b x xs q) ∙ both_here a b x xs p q ∙ sym (ap (inserted ahead b) (inserted_here a x xs p)))
      (cases_Bool (ahead x b)))
      (cases_Bool (ahead x a))

  -- what is left without one entry
  without : X → List X → List X
  without e [] = []
  without e (x ∷ xs) = cond (ahead x e) (x ∷ without e xs) xs

  without_inserted : (e : X) (xs : List X) → without e (inserted ahead e xs) ≡ xs
  unfolding without inserted
  without_inserted e [] = cond-false _ _ _ (never e)
  without_inserted e (x ∷ xs) = let ih = without_inserted e xs in ⊎_elim
      (λ t. ap (without e) (inserted_past e x xs t) ∙ cond-true _ _ _ t ∙ ap (λ l. x ∷ l) ih)
      (λ f. ap (without e) (inserted_here e x xs f) ∙ cond-false _ _ _ (never e))
      (cases_Bool (ahead x e))

  pub inserted_cancel : (e : X) (xs ys : List X) → inserted ahead e xs ≡ inserted ahead e ys → xs ≡ ys
  inserted_cancel e xs ys p = sym (without_inserted e xs) ∙ ap (without e) p ∙ without_inserted e ys

  pub length_inserted : (e : X) (xs : List X) → length (inserted ahead e xs) ≡ suc (length xs)
  unfolding inserted
  length_inserted e [] = refl
  length_inserted e (x ∷ xs) = let ih = length_inserted e xs in ⊎_elim
      (λ t. ap length (inserted_past e x xs t) ∙ ap suc ih)
      (λ f. ap length (inserted_here e x xs f))
      (cases_Bool (ahead x e))

  pub length-sorted : (xs : List X) → length (sorted ahead xs) ≡ length xs
  unfolding sorted
  length-sorted [] = refl
  length-sorted (x ∷ xs) = length_inserted x (sorted ahead xs) ∙ ap suc (length-sorted xs)

  pub sorted_push : (xs : List X) (e : X) → sorted ahead (xs ++ e ∷ []) ≡ inserted ahead e (sorted ahead xs)
  unfolding sorted
  sorted_push [] e = refl
  sorted_push (x ∷ xs) e = ap (inserted ahead x) (sorted_push xs e) ∙ inserted_comm x e (sorted ahead xs)

  -- an entry overwritten
  pub sorted-set : (xs : List X) (i : ℕ) (v d : X) → i < length xs → inserted ahead (get_or xs i d) (sorted ahead (set xs i v)) ≡ inserted ahead v (sorted ahead xs)
  unfolding sorted
  sorted-set [] i v d h = absurd (not-suc-le-zero h)
  sorted-set (x ∷ xs) zero v d h = inserted_comm x v (sorted ahead xs)
  sorted-set (x ∷ xs) (suc i) v d h = inserted_comm (get_or xs i d) x (sorted ahead (set xs i v)) ∙ ap (inserted ahead x) (sorted-set xs i v d (le_of_suc-le-suc h)) ∙ inserted_comm x v (sorted ahead xs)

  -- the hole at j, which e is to fill, moves to c, and the entry at c to j
  pub sorted-moved : (xs : List X) (j c : ℕ) (e x : X) → j < length xs → c < length xs → (c ≡ j → ⊥) → x ≡ get_or xs c x → sorted ahead (set (set xs j x) c e) ≡ sorted ahead (set xs j e)
  sorted-moved xs j c e x p q n is =
      let l = set xs j x in
      let V = set xs j e in
      let here : get_or l c x ≡ x = get_or-set_other xs j c x x n ∙ sym is in
      let after : inserted ahead x (sorted ahead (set l c e)) ≡ inserted ahead e (sorted ahead l) =
      ap (λ y. inserted ahead y (sorted ahead (set l c e))) (sym here) ∙ sorted-set l c e x (omega (arith, length-set xs j x)) in
      let before : inserted ahead e (sorted ahead l) ≡ inserted ahead x (sorted ahead V) =
      ap (λ y. inserted ahead y (sorted ahead l)) (sym (get_or-set_same xs j e x p)) ∙ ap (λ w. inserted ahead (get_or V j x) (sorted ahead w)) (sym (set-set xs j e x)) ∙ sorted-set V j x x (omega (arith, length-set xs j e)) in
      inserted_cancel x (sorted ahead (set l c e)) (sorted ahead V) (after ∙ before)

  -- the first of a list of which none is ahead of it
  pub inserted-first : (e : X) (xs : List X) → AllByRecursion (λ y. ahead y e ≡ false) xs → inserted ahead e xs ≡ e ∷ xs
  unfolding inserted
  inserted-first e [] h = refl
  inserted-first e (x ∷ xs) h = inserted_here e x xs h.0

  pub all_inserted : (P : X → Type 0) (e : X) (xs : List X) → P e → AllByRecursion P xs → AllByRecursion P (inserted ahead e xs)
  unfolding inserted
  all_inserted P e [] p h = (p, tt)
  all_inserted P e (x ∷ xs) p h = let ih = all_inserted P e xs p h.1 in ⊎_elim
      (λ t. subst (AllByRecursion P) (sym (inserted_past e x xs t)) (h.0, ih))
      (λ f. subst (AllByRecursion P) (sym (inserted_here e x xs f)) (p, h))
      (cases_Bool (ahead x e))

  pub all_sorted : (P : X → Type 0) (xs : List X) → AllByRecursion P xs → AllByRecursion P (sorted ahead xs)
  unfolding sorted
  all_sorted P [] h = tt
  all_sorted P (x ∷ xs) h = all_inserted P x (sorted ahead xs) h.0 (all_sorted P xs h.1)

  -- one that none is ahead of comes first
  pub sorted-first : (x : X) (xs : List X) → AllByRecursion (λ y. ahead y x ≡ false) xs → sorted ahead (x ∷ xs) ≡ x ∷ sorted ahead xs
  unfolding sorted
  sorted-first x xs h = inserted-first x (sorted ahead xs) (all_sorted (λ y. ahead y x ≡ false) xs h)

  pub ascends_inserted : (e : X) (xs : List X) → Ascends ahead xs → Ascends ahead (inserted ahead e xs)
  unfolding inserted
  ascends_inserted e [] h = (tt, tt)
  ascends_inserted e (x ∷ xs) h = let ih = ascends_inserted e xs h.1 in ⊎_elim
      (λ t. subst (Ascends ahead) (sym (inserted_past e x xs t)) (all_inserted (λ y. ahead y x ≡ false) e xs (o.strict x e t) h.0, ih))
      (λ f. subst (Ascends ahead) (sym (inserted_here e x xs f)) ((f, All-weaker (λ y. ahead y x ≡ false) (λ y. ahead y e ≡ false) (λ y p. behind y x e p f) xs h.0), h))
      (cases_Bool (ahead x e))

  pub ascends_sorted : (xs : List X) → Ascends ahead (sorted ahead xs)
  unfolding sorted
  ascends_sorted [] = tt
  ascends_sorted (x ∷ xs) = ascends_inserted x (sorted ahead xs) (ascends_sorted xs)

-- the first of a list in order
pub first_least : {X : Type 0} (ahead : X → X → Bool) (l : List X) (x : X) (m : List X) → Ascends ahead l → l ≡ x ∷ m → AllByRecursion (λ y. ahead y x ≡ false) m
first_least ahead l x m h e = (subst (Ascends ahead) e h).0
