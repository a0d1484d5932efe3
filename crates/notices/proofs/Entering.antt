-- A notice entered into the slots of a table.
use Rattle.std.proofs.Common.{◌≡◌, ℕ, zero, suc, ◌+◌, ◌<◌, ◌≤◌, Bool, true, false, cond, eqb, ◌≢◌, List, [], ◌∷◌, Some, None, Option, is_some, option_map, length, get_or, set, replicate, sym, subst, IsSome, MatchOption, refl, ap, ◌∙◌, inl, inr, arith}
use Rattle.std.proofs.lemmas.List.{get_or_past}
use Rattle.std.proofs.lemmas.List.Sums.{sum_by-set, sum_by-cons, count_by-le-length}
use Rattle.std.proofs.lemmas.Bool.{cases_lt}
use Rattle.std.proofs.lemmas.Bool.Decides.{nat_tests}
use Rattle.timetable.specs.declared.report.Report.{Report}
use Rattle.notices.specs.declared.notice.Notice.{Notice}
use Rattle.notices.specs.Slots.{weight, names, said, found, used, OneEach, IsSlotFor, Entered}

-- nobody names z
pub found_none : (xs : List (Option Notice)) (z : ℕ) → ((j : ℕ) → names (get_or xs j None) z ≡ false) → found xs z ≡ None
found_none [] z h = refl
found_none (x ∷ xs) z h = ap (λ b. cond b (said x) (found xs z)) (h 0) ∙ found_none xs z (λ j. h (suc j))

-- one names z
pub found-one : (xs : List (Option Notice)) (i z : ℕ) → ((j : ℕ) → j ≢ i → names (get_or xs j None) z ≡ false) → names (get_or xs i None) z ≡ true → found xs z ≡ said (get_or xs i None)
found-one [] i z others h = refl
found-one (x ∷ xs) zero z others h = ap (λ b. cond b (said x) (found xs z)) h
found-one (x ∷ xs) (suc i) z others h = ap (λ b. cond b (said x) (found xs z)) (others 0 (λ e. omega arith)) ∙ found-one xs i z (λ j n. others (suc j) (λ e. n (omega arith))) h

-- a slot that names a train says something of it
said_named : (x : Option Notice) (z : ℕ) → names x z ≡ true → IsSome (said x)
said_named None z h = absurd (cc)
said_named (Some n) z h = refl

other_train : (x : Option Notice) (z y : ℕ) → names x z ≡ true → y ≢ z → names x y ≡ false
other_train None z y h n = refl
other_train (Some x) z y h n = grind (arith, nat_tests)

-- what the slots say of z stands in the slot for it
found_in : (xs : List (Option Notice)) (z i : ℕ) → IsSlotFor xs z i → found xs z ≡ said (get_or xs i None)
found_in xs z i h = decide (get_or xs i None) refl
  where
    -- the slot holds no notice, or one that is for z
    decide : (x : Option Notice) → get_or xs i None ≡ x → found xs z ≡ said (get_or xs i None)
    decide None e = grind (arith, found_none xs z (λ j. grind (arith, h.others j)))
    decide (Some n) e = grind (arith, nat_tests, h.own n.train.0, found-one xs i z h.others)

-- 1 for a slot that is taken
abbrev pub taken : Option Notice → ℕ
taken n = cond (is_some n) 1 0

-- the slot in which r stands for z
abbrev pub slot : ℕ → Option Report → Option Notice
slot z r = option_map (λ r. record { train = record { 0 = z }; report = r }) r

-- entered for the train itself, and for another
for_itself : (z y : ℕ) (r f : Option Report) → y ≡ z → f ≡ None → cond (names (slot z r) y) (said (slot z r)) f ≡ r
for_itself z y None f e n = n
for_itself z y (Some r) f e n = grind (arith, nat_tests)

for_another : (z y : ℕ) (r f : Option Report) → y ≢ z → cond (names (slot z r) y) (said (slot z r)) f ≡ f
for_another z y None f n = refl
for_another z y (Some r) f n = grind (arith, nat_tests)

module _ (z : ℕ) (r : Option Report) where
  pub says_set : (xs : List (Option Notice)) (i : ℕ) → i < length xs → ((j : ℕ) → j ≢ i → names (get_or xs j None) z ≡ false) → ((y : ℕ) → y ≢ z → names (get_or xs i None) y ≡ false) → (y : ℕ) → found (set xs i (slot z r)) y ≡ cond (eqb y z) r (found xs y)
  says_set [] i l others here y = absurd (omega arith)
  says_set (x ∷ xs) zero l others here y =
      let none : found xs z ≡ None = found_none xs z (λ j. others (suc j) (λ q. omega arith)) in
      grind (arith, nat_tests, for_itself, for_another, here y)
  says_set (x ∷ xs) (suc i) l others here y =
      let ih = says_set xs i (omega arith) (λ j n. others (suc j) (λ e. n (omega arith))) here y in
      let first : names x z ≡ false = others 0 (λ q. omega arith) in
      grind (arith, nat_tests)

  -- how many stand, where the slot said what the slots say of z
  count_set : (xs : List (Option Notice)) (i : ℕ) → i < length xs → found xs z ≡ said (get_or xs i None) → used (set xs i (slot z r)) + weight (found xs z) ≡ used xs + weight r
  count_set xs i l e = omega (arith, ap weight e, as_taken (get_or xs i None), sum_by-set taken xs i (slot z r) None l, in_slot r)
    where
      as_taken : (x : Option Notice) → weight (said x) ≡ taken x
      as_taken None = refl
      as_taken (Some n) = refl

      in_slot : (r : Option Report) → taken (slot z r) ≡ weight r
      in_slot None = refl
      in_slot (Some r) = refl

  pub entered-set : (xs : List (Option Notice)) (i : ℕ) → IsSlotFor xs z i → Entered xs (set xs i (slot z r)) z r
  entered-set xs i h = record {
    says = says_set xs i h.within h.others h.own;
    count = count_set xs i h.within (found_in xs z i h);
  }

-- the others, from one that names z, and from those within the list
pub others_than : (xs : List (Option Notice)) → OneEach xs → (z i : ℕ) → names (get_or xs i None) z ≡ true → (j : ℕ) → j ≢ i → names (get_or xs j None) z ≡ false
others_than xs one z i h j n = grind (arith, one z i j, one z j i)

pub none_at_all : (xs : List (Option Notice)) (z : ℕ) → length xs ≡ 32 → ((j : ℕ) → j < 32 → names (get_or xs j None) z ≡ false) → (j : ℕ) → names (get_or xs j None) z ≡ false
none_at_all xs z l h j = elim (cases_lt j 32) [ inl k ↦ h j k | inr k ↦ ap (λ x. names x z) (get_or_past xs j None (omega (arith, k, l))) ]

-- no free slot
pub all_used : (xs : List (Option Notice)) → ((j : ℕ) → j < length xs → IsSome (get_or xs j None)) → used xs ≡ length xs
all_used [] h = refl
all_used (None ∷ xs) h = let e : false ≡ true = h 0 (omega arith) in absurd (cc)
all_used (Some x ∷ xs) h = omega (arith, sum_by-cons taken (Some x) xs, all_used xs (λ j l. h (suc j) (omega arith)))

-- a free slot, and not all are used
pub not_all_used : (xs : List (Option Notice)) (i : ℕ) → i < length xs → get_or xs i None ≡ None → used xs < length xs
not_all_used [] i l h = omega arith
not_all_used (x ∷ xs) zero l h =
    let free : taken x ≡ 0 = ap taken h in
    omega (arith, sum_by-cons taken x xs, count_by-le-length is_some xs)
not_all_used (x ∷ xs) (suc i) l h = omega (arith, sum_by-cons taken x xs, not_all_used xs i (omega arith) h, one_at_most x)
  where
    one_at_most : (x : Option Notice) → taken x ≤ 1
    one_at_most None = omega arith
    one_at_most (Some n) = omega arith

-- every slot is free, and names no train
free_in : (n k : ℕ) → ◌≡◌ {A = Option Notice} (get_or (replicate n None) k None) None
free_in zero k = refl
free_in (suc n) zero = refl
free_in (suc n) (suc k) = free_in n k

pub free_replicate : (n k z : ℕ) → names (get_or (replicate n None) k None) z ≡ false
free_replicate n k z = ap (λ x. names x z) (free_in n k)

-- where no slot names a train, no two name one
pub all_free : (xs : List (Option Notice)) → ((z k : ℕ) → names (get_or xs k None) z ≡ false) → OneEach xs
all_free xs h z i j p = let e = h z i in let q = p.1 in cc

-- where a choice comes to nothing, its first answer does not hold, and the rest comes to nothing
pub past : {X : Type 0} (b : Bool) (x : X) (rest : Option X) → cond b (Some x) rest ≡ None → (b ≡ false) × (rest ≡ None)
past true x rest h = absurd (cc)
past false x rest h = (refl, h)

-- where nothing is said of z, no slot names it
not_named : (xs : List (Option Notice)) (z : ℕ) → found xs z ≡ None → (j : ℕ) → names (get_or xs j None) z ≡ false
not_named [] z h j = refl
not_named (None ∷ xs) z h zero = refl
not_named (None ∷ xs) z h (suc j) = not_named xs z h j
not_named (Some n ∷ xs) z h zero = (past (eqb n.train.0 z) n.report (found xs z) h).0
not_named (Some n ∷ xs) z h (suc j) = not_named xs z (past (eqb n.train.0 z) n.report (found xs z) h).1 j

-- the slot of a train's notice
pub own_slot : (xs : List (Option Notice)) → OneEach xs → (z i : ℕ) → i < length xs → names (get_or xs i None) z ≡ true → IsSlotFor xs z i × (found xs z ≡ said (get_or xs i None)) × IsSome (found xs z)
own_slot xs one z i l h = (w, e, subst IsSome (sym e) (said_named (get_or xs i None) z h))
  where
    w : IsSlotFor xs z i
    w = record { within = l; own = λ y n. other_train (get_or xs i None) z y h n; others = others_than xs one z i h }

    e : found xs z ≡ said (get_or xs i None)
    e = found-one xs i z (others_than xs one z i h) h

-- what follows where there is none
pub on_none : {A : Type 0} (o : Option A) (P P' : Type 0) (Q : A → Type 0) → (P → P') → MatchOption o P Q → MatchOption o P' Q
on_none None P P' Q f h = f h
on_none (Some x) P P' Q f h = h

-- that slot, or else a free one
pub own_or_free : (xs : List (Option Notice)) → length xs ≡ 32 → (z : ℕ) (own slot : Option ℕ)
    → MatchOption own (found xs z ≡ None) (λ i. IsSlotFor xs z i × (found xs z ≡ said (get_or xs i None)) × IsSome (found xs z))
    → MatchOption own (MatchOption slot ((j : ℕ) → j < 32 → IsSome (get_or xs j None)) (λ i. (i < 32) × (get_or xs i None ≡ None))) (λ i. slot ≡ Some i)
    → MatchOption slot ((32 ≤ used xs) × (found xs z ≡ None)) (λ i. IsSlotFor xs z i × ((32 ≤ used xs) → IsSome (found xs z)))
own_or_free xs all z None None none full = (omega (arith, all_used xs (λ j l. full j (omega arith))), none)
own_or_free xs all z None (Some i) none free = (
  record { within = omega (arith, free.0); own = λ y n. ap (λ x. names x y) free.1; others = λ j n. not_named xs z none j },
  λ m. absurd (omega (arith, not_all_used xs i (omega (arith, free.0)) free.1)),
)
own_or_free xs all z (Some i) slot own e = rw e (own.0, λ m. own.2)
