-- It can be told of every row whether it is chosen, so the chosen rows are those that pass a test.
use Rattle.std.proofs.Common.{◌≡◌, ℕ, zero, suc, ◌+◌, ◌<◌, ◌≤◌, Bool, true, false, ◌⊎◌, List, [], ◌∷◌, ◌++◌, map, MatchBool, cond, sym, refl, ap, ◌∙◌, subst, inl, inr, add-one, arith}
use Rattle.std.specs.Fn.{CalledAt}
use Rattle.std.specs.Iterator.Adapters.{filter_source, filter_callee, filter_steps}
use Rattle.std.specs.List.{filter, range_with_len}
use Rattle.std.specs.declared.iter.Filter.{Filter}
use Rattle.std.specs.declared.ops.Range.{Range}
use Rattle.std.proofs.iter.Yields.{nat_range_steps}
use Rattle.std.proofs.lemmas.Iterator.{YieldsList, YieldsList-from_range}
use Rattle.std.proofs.lemmas.Iterator.Consumers.{YieldsList-from_filter}
use denote.Param.Members.{Mut}
use denote.Ref.{Bor}
use Rattle.std.proofs.lemmas.Bool.{cases_eq, cases_lt}
use Rattle.std.proofs.lemmas.List.{map-append, map-id, append-nil}
use Rattle.std.proofs.lemmas.List.Elements.{filter-append}
use Rattle.std.proofs.lemmas.List.FromFn.{map-range_with_len_more}
use Rattle.timetable.specs.declared.label.Label.{Label}
use Rattle.timetable.specs.declared.pair.Pair.{Pair}
use Rattle.answers.specs.declared.view.View.{View}
use Rattle.answers.specs.Rowwise.{leaving, coming, Comes, Yields, ChosenRow, row_pair, Listed, none, take, pass}

abbrev pub Told : Type 0 → Type 0
Told P = P ⊎ (P → ⊥)

abbrev pub is_told : {P : Type 0} → Told P → Bool
is_told (inl p) = true
is_told (inr n) = false

pub same_told : {P : Type 0} (t : Told P) (b : Bool) → MatchBool b P (P → ⊥) → b ≡ is_told t
same_told (inl p) true h = refl
same_told (inl p) false h = absurd (h p)
same_told (inr n) true h = absurd (n h)
same_told (inr n) false h = refl

told_if : {P Q : Type 0} → Told P → Told Q → Told (P → Q)
told_if (inl p) (inl q) = inl (λ _. q)
told_if (inl p) (inr n) = inr (λ f. n (f p))
told_if (inr n) t = inl (λ p. absurd (n p))

told_lt : (a b : ℕ) → Told (a < b)
told_lt a b = elim (cases_lt a b) [ inl h ↦ inl h | inr h ↦ inr (λ k. omega arith) ]

told_le : (a b : ℕ) → Told (a ≤ b)
told_le a b = elim (cases_lt b a) [ inl h ↦ inr (λ k. omega arith) | inr h ↦ inl h ]

told_below : (P : ℕ → Type 0) → ((j : ℕ) → Told (P j)) → (n : ℕ) → Told ((j : ℕ) → j < n → P j)
told_below P f zero = inl (λ j h. absurd (omega arith))
told_below P f (suc n) = on (told_below P f n) (f n)
  where
    on : Told ((j : ℕ) → j < n → P j) → Told (P n) → Told ((j : ℕ) → j < suc n → P j)
    on (inl a) (inl b) = inl (λ j h. elim (cases_eq j n) [ inl e ↦ subst P (sym e) b | inr e ↦ a j (omega arith) ])
    on (inl a) (inr b) = inr (λ g. b (g n (omega arith)))
    on (inr a) b = inr (λ g. a (λ j h. g j (omega arith)))

module _ (w : View) (memory : List Label) where
  told_comes : (i : ℕ) → Told (Comes w memory i)
  told_comes i = elim (cases_eq (coming w memory i) 4294967295) [ inl e ↦ inr (λ n. n e) | inr n ↦ inl (λ e. absurd (omega arith)) ]

  told_yields : (i j : ℕ) → Told (Yields w memory i j)
  told_yields i j =
      on (told_lt (coming w memory i) (coming w memory j + w.period)) (told_if (told_lt i j) (told_lt (coming w memory i) (coming w memory j)))
      (told_if (elim (cases_eq (leaving w memory j) (leaving w memory i)) [ inl e ↦ inl e | inr n ↦ inr (λ e. absurd (omega arith)) ]) (told_le (coming w memory i) (coming w memory j)))
    where
      on : Told (coming w memory i < coming w memory j + w.period) → Told (i < j → coming w memory i < coming w memory j) → Told (leaving w memory j ≡ leaving w memory i → coming w memory i ≤ coming w memory j) → Told (Yields w memory i j)
      on (inl a) (inl b) (inl c) = inl (record { later = a; higher = b; same = c })
      on (inr n) b c = inr (λ y. n y.later)
      on (inl a) (inr n) c = inr (λ y. n y.higher)
      on (inl a) (inl b) (inr n) = inr (λ y. n y.same)

  pub told_chosen : (i : ℕ) → Told (ChosenRow w memory i)
  told_chosen i = on (told_lt i w.rows) (told_comes i) (told_below (λ j. Comes w memory j → Yields w memory i j) (λ j. told_if (told_comes j) (told_yields i j)) w.rows)
    where
      on : Told (i < w.rows) → Told (Comes w memory i) → Told ((j : ℕ) → j < w.rows → Comes w memory j → Yields w memory i j) → Told (ChosenRow w memory i)
      on (inl a) (inl b) (inl c) = inl (record { there = a; comes = b; alone = c })
      on (inr n) b c = inr (λ y. n y.there)
      on (inl a) (inr n) c = inr (λ y. n y.comes)
      on (inl a) (inl b) (inr n) = inr (λ y. n y.alone)

  abbrev pub chosen : ℕ → Bool
  chosen i = is_told (told_chosen i)

  -- their pairs, in order
  range_more : (n : ℕ) → range_with_len 0 (suc n) ≡ range_with_len 0 n ++ n ∷ []
  range_more n =
      let e : range_with_len 0 (n + 1) ≡ range_with_len 0 n ++ n ∷ [] = sym (map-id (range_with_len 0 (n + 1))) ∙ map-range_with_len_more (λ (x : ℕ). x) 0 n n (omega arith) ∙ ap (λ (z : List ℕ). z ++ n ∷ []) (map-id (range_with_len 0 n)) in
      rw add-one at e

  abbrev pub pairs : ℕ → List Pair
  pairs n = map (row_pair w memory) (filter chosen (range_with_len 0 n))

  pub listed : (n : ℕ) → Listed w memory n (pairs n)
  listed zero = none
  listed (suc n) =
      subst (Listed w memory (suc n))
      (sym (ap (λ (z : List ℕ). map (row_pair w memory) (filter chosen z)) (range_more n) ∙ ap (map (row_pair w memory)) (filter-append chosen (range_with_len 0 n) (n ∷ [])) ∙ map-append (row_pair w memory) (filter chosen (range_with_len 0 n)) (filter chosen (n ∷ []))))
      (on (told_chosen n) (listed n))
    where
      on : (t : Told (ChosenRow w memory n)) → Listed w memory n (pairs n) → Listed w memory (suc n) (pairs n ++ map (row_pair w memory) (cond (is_told t) (n ∷ []) []))
      on (inl c) l = take l c
      on (inr k) l = subst (Listed w memory (suc n)) (sym (append-nil (pairs n))) (pass l k)

  -- a range of the rows, filtered by a closure that tells of each whether it is chosen
  pub chosen_rows : {F : Type 0} (g : Mut F (Bor ℕ × Unit {0}) Bool) {s : Filter (Range ℕ) F} {f : F} → filter_source s ≡ record { start = 0; end = w.rows } → filter_callee s ≡ f
      → ((x : ℕ) (b : Bool) (q : F) → CalledAt g f x b q → (q ≡ f) × MatchBool b (ChosenRow w memory x) (ChosenRow w memory x → ⊥))
      → YieldsList (filter_steps nat_range_steps g) (λ x. x) s (filter chosen (range_with_len 0 w.rows))
  chosen_rows g source callee h = YieldsList-from_filter g chosen (YieldsList-from_range 0 w.rows w.rows source (omega arith)) callee (λ x b q k. ((h x b q k).0, same_told (told_chosen x) b (h x b q k).1))
