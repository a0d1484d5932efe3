-- What a put and a take leave in the cells.
use Rattle.std.proofs.Common.{◌≡◌, ℕ, zero, suc, ◌+◌, ◌<◌, ◌≤◌, Bool, false, List, [], ◌∷◌, ◌++◌, length, get_or, take, drop, set, sym, refl, ap, ◌∙◌, subst, arith}
use Rattle.std.specs.List.{AllByRecursion}
use Rattle.std.proofs.lemmas.List.{length-append, length-take-le, length-drop, length-set, take_at, take-take, take_more, drop_all, set_split, get_or-take, get_or-set_other, get_or_default}
use Rattle.std.proofs.ByRecursion.{All-from_get_or, All-take, All-set}
use Rattle.queue.specs.Order.{Sound, inserted, sorted}
use Rattle.heap.specs.Heaped.{Heaped, Rising, Sinking}
use Rattle.queue.proofs.Bag.{sorted_push, sorted-set, inserted-first, all_sorted}
use Rattle.heap.proofs.Tree.{top}

-- the first k of xs are overwritten by ys
module _ {X : Type 0} (xs ys : List X) (k : ℕ) (within : k ≤ length xs) (kept : length ys ≡ length (take k xs)) where
  long : length ys ≡ k
  long = kept ∙ length-take-le k xs within

  pub front_length : length (ys ++ drop k xs) ≡ length xs
  front_length = let a = length-append ys (drop k xs) in let b = length-drop k xs in let c = long in omega arith

  pub front_is : (n : ℕ) → n ≡ k → take n (ys ++ drop k xs) ≡ ys
  front_is n e = take_at ys (drop k xs) n (long ∙ sym e)

module _ {X : Type 0} {ahead : X → X → Bool} {minute_of : X → ℕ} (o : Sound ahead minute_of) where
  by : {a b x y : X} → a ≡ x → b ≡ y → ahead x y ≡ false → ahead a b ≡ false
  by p q h = (λ k. ahead (p k) (q k)) ∙ h

  module _ (xs : List X) (n k : ℕ) (e : X) (is : k ≡ n + 1) (below : n < length xs) where
    -- the cells held, and e after them
    pub put_is : set (take k xs) n e ≡ take n xs ++ e ∷ []
    put_is =
        let len = length-take-le k xs (omega arith) in
        set_split (take k xs) n e (omega arith) ∙ (λ i. take-take n k xs (omega arith) i ++ e ∷ drop_all (suc n) (take k xs) (omega arith) i)

    pub put_bag : sorted ahead (set (take k xs) n e) ≡ inserted ahead e (sorted ahead (take n xs))
    put_bag = ap (sorted ahead) put_is ∙ sorted_push o (take n xs) e

    pub put_rising : Heaped ahead (take n xs) → Rising ahead (set (take k xs) n e) n
    unfolding Heaped Rising
    put_rising h =
        let size : length (take n xs) ≡ n = length-take-le n xs (omega arith) in
        let size' : length (take k xs) ≡ k = length-take-le k xs (omega arith) in
        let size'' : length (set (take k xs) n e) ≡ k = length-set (take k xs) n e ∙ size' in
        let same : (d : X) (m : ℕ) → m < n → get_or (set (take k xs) n e) m d ≡ get_or (take n xs) m d =
        λ d m l. get_or-set_other (take k xs) n m e d (omega arith) ∙ get_or-take k xs m d (omega arith) ∙ sym (get_or-take n xs m d l) in (
          λ d p m c l ne. by (same d m (omega arith)) (same d p (omega arith)) (h d p m c (omega arith)),
          λ d p m pn nm l. absurd (omega arith),
        )

  module _ (xs : List X) (n k : ℕ) (first last : X) (is : k + 1 ≡ n) (within : n ≤ length xs) (head : first ≡ get_or xs 0 first) (end : last ≡ get_or xs k last) where
    -- the held cells but for the first, the last in its place
    abbrev left : List X
    left = set (take k xs) 0 last

    size : length (take n xs) ≡ n
    size = length-take-le n xs within

    held_is : take n xs ≡ take k xs ++ last ∷ []
    held_is = ap (λ m. take m xs) (sym is) ∙ take_more xs k last (omega arith) ∙ ap (λ y. take k xs ++ y ∷ []) (sym end)

    left_bag : (m : ℕ) → m ≡ k → inserted ahead first (sorted ahead left) ≡ sorted ahead (take n xs)
    unfolding sorted inserted
    left_bag zero e =
        let none : take k xs ≡ [] = ap (λ m. take m xs) (sym e) in
        let same : first ≡ last = head ∙ ap (λ m. get_or xs m first) e ∙ get_or_default xs k first last (omega arith) ∙ sym end in
        ap (λ l. inserted ahead first (sorted ahead (set l 0 last))) none ∙ ap (λ y. y ∷ []) same ∙ sym (ap (sorted ahead) held_is ∙ ap (λ l. sorted ahead (l ++ last ∷ [])) none)
    left_bag (suc m) e =
        let len : length (take k xs) ≡ k = length-take-le k xs (omega arith) in
        let here : get_or (take k xs) 0 first ≡ first = get_or-take k xs 0 first (omega arith) ∙ sym head in
        ap (λ y. inserted ahead y (sorted ahead left)) (sym here) ∙ sorted-set o (take k xs) 0 last first (omega arith) ∙ sym (ap (sorted ahead) held_is ∙ sorted_push o (take k xs) last)

    behind_first : Heaped ahead (take n xs) → AllByRecursion (λ y. ahead y first ≡ false) (take n xs)
    behind_first h = let s = size in All-from_get_or (λ y. ahead y first ≡ false) (take n xs) first
        (λ i l. by refl (head ∙ sym (get_or-take n xs 0 first (omega arith))) (top o (take n xs) first h i i (omega arith) l))

    pub take_bag : Heaped ahead (take n xs) → sorted ahead (take n xs) ≡ first ∷ sorted ahead left
    take_bag h =
        let P : X → Type 0 = λ y. ahead y first ≡ false in
        let all = behind_first h in
        let s = size in
        let front : AllByRecursion P (take k xs) = subst (AllByRecursion P) (take-take k n xs (omega arith)) (All-take P k (take n xs) all) in
        let at-end : P last = by (end ∙ sym (get_or-take n xs k last (omega arith)) ∙ get_or_default (take n xs) k last first (omega arith)) (head ∙ sym (get_or-take n xs 0 first (omega arith))) (top o (take n xs) first h k k (omega arith) (omega arith)) in
        sym (left_bag k refl) ∙ inserted-first o first (sorted ahead left) (all_sorted o P left (All-set P (take k xs) 0 last at-end front))

    pub take_sinking : Heaped ahead (take n xs) → Sinking ahead left 0
    unfolding Heaped Sinking
    take_sinking h =
        let s = size in
        let size' : length (take k xs) ≡ k = length-take-le k xs (omega arith) in
        let size'' : length left ≡ k = length-set (take k xs) 0 last ∙ size' in
        let same : (d : X) (m : ℕ) → 0 < m → m < k → get_or left m d ≡ get_or (take n xs) m d =
        λ d m z l. get_or-set_other (take k xs) 0 m last d (omega arith) ∙ get_or-take k xs m d l ∙ sym (get_or-take n xs m d (omega arith)) in (
          λ d p m c l ne. by (same d m (omega arith) (omega arith)) (same d p (omega arith) (omega arith)) (h d p m c (omega arith)),
          λ d p m pn nm l. absurd (omega arith),
        )
