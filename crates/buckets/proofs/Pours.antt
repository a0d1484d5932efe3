-- Laws of `poured`, `total`, `sizes` and `walk`.
use Rattle.std.proofs.Common.{◌≡◌, ℕ, zero, suc, ◌+◌, ◌<◌, ◌≤◌, Bool, cond, eqb, List, [], ◌∷◌, length, get_or, sym, refl, ap, ◌∙◌, ⊎_elim, arith}
use Rattle.std.specs.List.{AllByRecursion}
use Rattle.std.proofs.lemmas.Bool.{cases_eq, cases_Bool, cond-true, cond-false, lt-ltb, le-ltb, eq-eqb, ne_eqb}
use Rattle.queue.specs.Order.{Sound, inserted, Ascends}
use Rattle.buckets.specs.Chains.{Chain}
use Rattle.buckets.specs.Pour.{walk, sizes, poured, total}
use Rattle.queue.proofs.Bag.{inserted_past, inserted_here, inserted_comm, all_inserted, length_inserted, ascends_inserted}

-- a function with another value at b
abbrev pub upd : (ℕ → List ℕ) → ℕ → List ℕ → ℕ → List ℕ
upd f b v k = cond (eqb k b) v (f k)

pub upd_same : (f : ℕ → List ℕ) (b : ℕ) (v : List ℕ) (k : ℕ) → k ≡ b → upd f b v k ≡ v
upd_same f b v k e = cond-true _ _ _ (eq-eqb k b e)

pub upd_else : (f : ℕ → List ℕ) (b : ℕ) (v : List ℕ) (k : ℕ) → (k ≡ b → ⊥) → upd f b v k ≡ f k
upd_else f b v k ne = cond-false _ _ _ (ne_eqb k b ne)

pub sizes_past : (f : ℕ → List ℕ) (b : ℕ) (v : List ℕ) (n : ℕ) → n ≤ b → sizes (upd f b v) n ≡ sizes f n
unfolding sizes
sizes_past f b v zero le = refl
sizes_past f b v (suc n) le = let e = ap length (upd_else f b v n (omega arith)) in let ih = sizes_past f b v n (omega arith) in omega arith

pub sizes-upd : (f : ℕ → List ℕ) (b : ℕ) (v : List ℕ) (n : ℕ) → b < n → sizes (upd f b v) n + length (f b) ≡ sizes f n + length v
unfolding sizes
sizes-upd f b v zero lt = absurd (omega arith)
sizes-upd f b v (suc n) lt = let ih = sizes-upd f b v n in ⊎_elim
    (λ (e : n ≡ b). let same = ap length (upd_same f b v n e) in let old = ap (λ m. length (f m)) e in let past = sizes_past f b v n (omega arith) in omega arith)
    (λ ne. let same = ap length (upd_else f b v n ne) in let r = ih (omega arith) in omega arith)
    (cases_eq n b)

pub sizes-part : (f : ℕ → List ℕ) (b n : ℕ) → b < n → length (f b) ≤ sizes f n
unfolding sizes
sizes-part f b zero lt = absurd (omega arith)
sizes-part f b (suc n) lt = let ih = sizes-part f b n in ⊎_elim (λ (e : n ≡ b). let old = ap (λ m. length (f m)) e in omega arith) (λ ne. let r = ih (omega arith) in omega arith) (cases_eq n b)

pub sizes-last : (f : ℕ → List ℕ) (n : ℕ) → sizes f (suc n) ≡ length (f n) + sizes f n
unfolding sizes
sizes-last f n = refl

pub sizes_none : (f : ℕ → List ℕ) (n : ℕ) → ((b : ℕ) → f b ≡ []) → sizes f n ≡ 0
unfolding sizes
sizes_none f zero h = refl
sizes_none f (suc n) h = let e = ap length (h n) in let ih = sizes_none f n h in omega arith

pub walk_is : (fuel : ℕ) (ns : List ℕ) (a : ℕ) (is : List ℕ) → Chain ns a is → length is ≤ fuel → walk fuel ns a ≡ is
unfolding walk
walk_is zero ns a [] h le = refl
walk_is zero ns a (i ∷ is) h le = absurd (omega arith)
walk_is (suc fuel) ns a [] h le = cond-false _ _ _ (le-ltb a (length ns) h)
walk_is (suc fuel) ns a (i ∷ is) h le = let ih = walk_is fuel ns (get_or ns i 0) is h.2 (omega arith) in
    cond-true _ _ _ (lt-ltb a (length ns) (omega (arith, h.0, h.1))) ∙ (λ m. h.0 m ∷ walk fuel ns (get_or ns (h.0 m) 0)) ∙ ap (λ l. i ∷ l) ih

module _ {X : Type 0} {ahead : X → X → Bool} {minute_of : X → ℕ} (o : Sound ahead minute_of) where
  poured-inserted : (xs : List X) (e : X) (acc : List X) → poured ahead xs (inserted ahead e acc) ≡ inserted ahead e (poured ahead xs acc)
  unfolding poured
  poured-inserted [] e acc = refl
  poured-inserted (x ∷ xs) e acc = ap (inserted ahead x) (poured-inserted xs e acc) ∙ inserted_comm o x e (poured ahead xs acc)

  -- a list with one more entry, wherever that went
  inserted-poured : (xs : List X) (e : X) (acc : List X) → poured ahead (inserted ahead e xs) acc ≡ inserted ahead e (poured ahead xs acc)
  unfolding poured inserted
  inserted-poured [] e acc = refl
  inserted-poured (x ∷ xs) e acc = let ih = inserted-poured xs e acc in ⊎_elim
      (λ t. ap (λ l. poured ahead l acc) (inserted_past o e x xs t) ∙ ap (inserted ahead x) ih ∙ inserted_comm o x e (poured ahead xs acc))
      (λ f. ap (λ l. poured ahead l acc) (inserted_here o e x xs f))
      (cases_Bool (ahead x e))

  pub total_same : (f g : ℕ → List X) (n : ℕ) → ((k : ℕ) → k < n → g k ≡ f k) → total ahead g n ≡ total ahead f n
  unfolding total
  total_same f g zero h = refl
  total_same f g (suc n) h = (λ m. poured ahead (h n (omega arith) m) (total_same f g n (λ k lt. h k (omega arith)) m))

  -- one of the lists has one more entry
  pub total_more : (f g : ℕ → List X) (b : ℕ) (e : X) (n : ℕ) → b < n → ((k : ℕ) → k < n → (k ≡ b → ⊥) → g k ≡ f k) → ((acc : List X) → poured ahead (g b) acc ≡ inserted ahead e (poured ahead (f b) acc)) → total ahead g n ≡ inserted ahead e (total ahead f n)
  unfolding total
  total_more f g b e zero lt same more = absurd (omega arith)
  total_more f g b e (suc n) lt same more = let ih = total_more f g b e n in ⊎_elim
      (λ (q : n ≡ b). let below : total ahead g n ≡ total ahead f n = total_same f g n (λ k l. same k (omega arith) (omega arith)) in
      ap (poured ahead (g n)) below ∙ ap (λ m. poured ahead (g m) (total ahead f n)) q ∙ more (total ahead f n) ∙ ap (λ m. inserted ahead e (poured ahead (f m) (total ahead f n))) (sym q))
      (λ ne. (λ m. poured ahead (same n (omega arith) ne m) (ih (omega arith) (λ k l. same k (omega arith)) more m)) ∙ poured-inserted (f n) e (total ahead f n))
      (cases_eq n b)

  pub total_insert : (f g : ℕ → List X) (b : ℕ) (e : X) (n : ℕ) → b < n → ((k : ℕ) → k < n → (k ≡ b → ⊥) → g k ≡ f k) → g b ≡ inserted ahead e (f b) → total ahead g n ≡ inserted ahead e (total ahead f n)
  total_insert f g b e n lt same is = total_more f g b e n lt same (λ acc. ap (λ l. poured ahead l acc) is ∙ inserted-poured (f b) e acc)

  pub total_cons : (f g : ℕ → List X) (b : ℕ) (e : X) (n : ℕ) → b < n → ((k : ℕ) → k < n → (k ≡ b → ⊥) → g k ≡ f k) → g b ≡ e ∷ f b → total ahead g n ≡ inserted ahead e (total ahead f n)
  unfolding poured
  total_cons f g b e n lt same is = total_more f g b e n lt same (λ acc. ap (λ l. poured ahead l acc) is)

  all_poured : (P : X → Type 0) (xs acc : List X) → AllByRecursion P xs → AllByRecursion P acc → AllByRecursion P (poured ahead xs acc)
  unfolding poured
  all_poured P [] acc h k = k
  all_poured P (x ∷ xs) acc h k = all_inserted o P x (poured ahead xs acc) h.0 (all_poured P xs acc h.1 k)

  pub all_total : (P : X → Type 0) (f : ℕ → List X) (n : ℕ) → ((k : ℕ) → k < n → AllByRecursion P (f k)) → AllByRecursion P (total ahead f n)
  unfolding total
  all_total P f zero h = tt
  all_total P f (suc n) h = all_poured P (f n) (total ahead f n) (h n (omega arith)) (all_total P f n (λ k lt. h k (omega arith)))

  pub total_none : (f : ℕ → List X) (n : ℕ) → ((k : ℕ) → k < n → f k ≡ []) → total ahead f n ≡ []
  unfolding total poured
  total_none f zero h = refl
  total_none f (suc n) h = ap (λ l. poured ahead l (total ahead f n)) (h n (omega arith)) ∙ total_none f n (λ k lt. h k (omega arith))

  poured_long : (xs acc : List X) → length (poured ahead xs acc) ≡ length xs + length acc
  unfolding poured
  poured_long [] acc = omega arith
  poured_long (x ∷ xs) acc = let ih = poured_long xs acc in let i = length_inserted o x (poured ahead xs acc) in omega arith

  pub total_long : (f : ℕ → List X) (g : ℕ → List ℕ) (n : ℕ) → ((k : ℕ) → k < n → length (f k) ≡ length (g k)) → length (total ahead f n) ≡ sizes g n
  unfolding total sizes
  total_long f g zero h = refl
  total_long f g (suc n) h = let ih = total_long f g n (λ k lt. h k (omega arith)) in let p = poured_long (f n) (total ahead f n) in let q = h n (omega arith) in omega arith

  ascends_poured : (xs acc : List X) → Ascends ahead acc → Ascends ahead (poured ahead xs acc)
  unfolding poured
  ascends_poured [] acc h = h
  ascends_poured (x ∷ xs) acc h = ascends_inserted o x (poured ahead xs acc) (ascends_poured xs acc h)

  pub ascends_total : (f : ℕ → List X) (n : ℕ) → Ascends ahead (total ahead f n)
  unfolding total
  ascends_total f zero = tt
  ascends_total f (suc n) = ascends_poured (f n) (total ahead f n) (ascends_total f n)
