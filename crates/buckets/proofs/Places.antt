-- The cells of a bucket queue change hands: what stays in order.
use Rattle.std.proofs.Common.{◌≡◌, ℕ, zero, suc, ◌+◌, ◌-◌, ◌/◌, ◌%◌, ◌<◌, ◌≤◌, Bool, false, cond, ltb, ◌⊎◌, List, [], ◌∷◌, ◌++◌, length, get_or, take, drop, set, replicate, sym, refl, ap, ◌∙◌, subst, inl, inr, ⊎_elim, arith}
use Rattle.std.specs.List.{AllByRecursion}
use Rattle.std.proofs.lemmas.Bool.{both_ways, cases_eq, cases_lt, cond-true, cond-false, lt-ltb, le-ltb}
use Rattle.std.proofs.lemmas.List.{length-set, get_or_append_left, get_or_at, get_or-set_same, get_or-set_other, get_or-replicate, length-replicate, nil_from_length}
use Rattle.std.proofs.ByRecursion.{All-weaker}
use Rattle.buckets.specs.declared.chain.Cell.{Cell}
use Rattle.queue.specs.Order.{Sound, inserted, Ascends}
use Rattle.buckets.specs.Bitmap.{occupied, Clear}
use Rattle.buckets.specs.Chains.{In, Chain, nexts, entries, picked, Linked}
use Rattle.buckets.specs.Pour.{total}
use Rattle.buckets.specs.InBuckets.{Lodged, Fine, Reserved, in_cells}
use Rattle.std.specs.Int.{bit_at}
use Rattle.std.proofs.lemmas.Nat.Bits.{bit_at-lt, bit_at-zero}
use Rattle.queue.proofs.Bag.{behind, inserted-first, all_inserted, ascends_inserted}
use Rattle.buckets.proofs.Walks.{chain_once, chain_frame, pick, picked_else, length-nexts, length-entries}
use Rattle.buckets.proofs.Pours.{upd, upd_same, upd_else, sizes_past, sizes-upd, sizes-part, sizes-last, sizes_none, walk_is, total_same, total_insert, total_cons, all_total, total_none, total_long}

-- where the chains begin
starts-at : (first : List ℕ) (free b : ℕ) → length first ≡ 256 → b < 256 → get_or (first ++ free ∷ []) b 0 ≡ get_or first b 0
starts-at first free b wide lt = get_or_append_left first (free ∷ []) 0 b (omega arith)

starts_free : (first : List ℕ) (free b : ℕ) → length first ≡ 256 → b ≡ 256 → get_or (first ++ free ∷ []) b 0 ≡ free
starts_free first free b wide e = ap (λ m. get_or (first ++ free ∷ []) m 0) e ∙ get_or_at first free [] 0 256 wide

in_at : (i : ℕ) {l m : List ℕ} → l ≡ m → In i l → In i m
in_at i e h = subst (In i) e h

module _ {X : Type 0} (Q : X → Type 0) where
  all_rest : (xs : List X) (i : ℕ) (ys : List X) → AllByRecursion Q (take 1 (drop i xs) ++ ys) → AllByRecursion Q ys
  all_rest [] zero ys h = h
  all_rest [] (suc i) ys h = h
  all_rest (x ∷ xs) zero ys h = h.1
  all_rest (x ∷ xs) (suc i) ys h = all_rest xs i ys h

  all_first : (xs : List X) (i : ℕ) (ys : List X) (d : X) → i < length xs → AllByRecursion Q (take 1 (drop i xs) ++ ys) → Q (get_or xs i d)
  all_first [] i ys d l h = absurd (omega arith)
  all_first (x ∷ xs) zero ys d l h = h.0
  all_first (x ∷ xs) (suc i) ys d l h = all_first xs i ys d (omega arith) h

  all_both : (R S : X → Type 0) → ((x : X) → R x → S x → Q x) → (xs : List X) → AllByRecursion R xs → AllByRecursion S xs → AllByRecursion Q xs
  all_both R S f [] h k = tt
  all_both R S f (x ∷ xs) h k = (f x h.0 k.0, all_both R S f xs h.1 k.1)

module _ {X : Type 0} {ahead : X → X → Bool} {minute_of : X → ℕ} (o : Sound ahead minute_of) where
  module _ {out : ℕ} {cs : List (Cell X)} {bits first : List ℕ} {free fresh len : ℕ} {P : ℕ → X → Type 0} (w : Fine ahead P out cs bits first free fresh len) where
    pub short : (b : ℕ) → b < 257 → length (w.chains b) ≤ length cs
    short b lt = let p = sizes-part w.chains b 257 lt in omega (arith, w.count, w.fits)

    -- what is held, by the chains
    pub held_is : in_cells ahead cs first ≡ total ahead (λ b. picked (entries cs) (w.chains b)) 256
    held_is = total_same o (λ b. picked (entries cs) (w.chains b)) _ 256 (λ k lt. ap (picked (entries cs))
        (walk_is (length cs) (nexts cs) (get_or first k 0) (w.chains k) (subst (λ m. Chain (nexts cs) m (w.chains k)) (starts-at first free k w.wide lt) (w.starts k (omega arith))) (short k (omega arith))))

    chain_spare : Chain (nexts cs) free (w.chains 256)
    chain_spare = subst (λ m. Chain (nexts cs) m (w.chains 256)) (starts_free first free 256 w.wide refl) (w.starts 256 (omega arith))

    pub chain_bucket : (b : ℕ) → b < 256 → Chain (nexts cs) (get_or first b 0) (w.chains b)
    chain_bucket b lt = subst (λ m. Chain (nexts cs) m (w.chains b)) (starts-at first free b w.wide lt) (w.starts b (omega arith))

    -- one chain loses its first cell i
    module _ (b i next : ℕ) (rest : List ℕ) (lt : b < 257) (is : w.chains b ≡ i ∷ rest) where
      chains' : ℕ → List ℕ
      chains' = upd w.chains b rest

      inside : (k j : ℕ) → In j (upd w.chains b rest k) → In j (w.chains k)
      inside k j h = ⊎_elim
          (λ (e : k ≡ b). in_at j (sym (ap w.chains e ∙ is)) (inr (in_at j (upd_same w.chains b rest k e) h)))
          (λ ne. in_at j (upd_else w.chains b rest k ne) h)
          (cases_eq k b)

      lost : (k : ℕ) → k < 257 → In i (upd w.chains b rest k) → ⊥
      lost k kl h = ⊎_elim
          (λ (e : k ≡ b). chain_once (nexts cs) _ i rest (subst (Chain (nexts cs) (get_or (first ++ free ∷ []) b 0)) is (w.starts b lt)) (in_at i (upd_same w.chains b rest k e) h))
          (λ ne. ne (w.apart k b i kl lt (inside k i h) (in_at i (sym is) (inl refl))))
          (cases_eq k b)

      goes_on : Chain (nexts cs) (get_or (nexts cs) i 0) rest
      goes_on = (subst (Chain (nexts cs) (get_or (first ++ free ∷ []) b 0)) is (w.starts b lt)).2

  -- a cell that was given back
  reserve : {cs : List (Cell X)} {bits first : List ℕ} {free fresh len : ℕ} {P : ℕ → X → Type 0} (w : Fine ahead P 0 cs bits first free fresh len) (next : ℕ) → next ≡ get_or (nexts cs) free 0 → (is : List ℕ) → w.chains 256 ≡ is → Chain (nexts cs) free is → free < length cs → Reserved ahead P free cs bits first next fresh len
  reserve {cs} {bits} {first} {free} {fresh} {len} {P} w next e [] is h lt = absurd (omega (arith, h, length-nexts cs))
  reserve {cs} {bits} {first} {free} {fresh} {len} {P} w next e (i ∷ rest) is h lt =
      let fi : free ≡ i = h.0 in
      let sz = sizes-upd w.chains 256 rest 257 (omega arith) in
      let sl : length (w.chains 256) ≡ suc (length rest) = ap length is in
      let keeps : (k : ℕ) → k < 256 → upd w.chains 256 rest k ≡ w.chains k = λ k l. upd_else w.chains 256 rest k (omega arith) in
      let fine : Fine ahead P 1 cs bits first next fresh len = record {
        chains = upd w.chains 256 rest;
        wide = w.wide;
        starts = λ k l. ⊎_elim
            (λ (q : k ≡ 256). subst (λ m. Chain (nexts cs) m (upd w.chains 256 rest k)) (sym (starts_free first next k w.wide q))
            (subst (Chain (nexts cs) next) (sym (upd_same w.chains 256 rest k q)) (subst (λ m. Chain (nexts cs) m rest) (sym (e ∙ ap (λ m. get_or (nexts cs) m 0) fi)) h.2)))
            (λ ne. subst (λ m. Chain (nexts cs) m (upd w.chains 256 rest k)) (sym (starts-at first next k w.wide (omega arith)))
            (subst (Chain (nexts cs) (get_or first k 0)) (sym (keeps k (omega arith))) (chain_bucket w k (omega arith))))
            (cases_eq k 256);
        apart = λ b k j bl kl p q. w.apart b k j bl kl (inside w 256 i next rest (omega arith) is b j p) (inside w 256 i next rest (omega arith) is k j q);
        below = λ b j bl p. w.below b j bl (inside w 256 i next rest (omega arith) is b j p);
        fits = w.fits;
        count = omega (arith, w.count);
        held = sizes_past w.chains 256 rest 256 (omega arith) ∙ w.held;
        rises = λ b l. subst (λ m. Ascends ahead (picked (entries cs) m)) (sym (keeps b l)) (w.rises b l);
        lodged = λ b l. subst (λ m. AllByRecursion (P b) (picked (entries cs) m)) (sym (keeps b l)) (w.lodged b l);
        marks = w.marks;
      } in
      record {
        fine = fine;
        known = subst (λ m. m < fresh) (sym fi) (w.below 256 i (omega arith) (in_at i (sym is) (inl refl)));
        loose = λ b l p. lost w 256 i next rest (omega arith) is b l (subst (λ m. In m (upd w.chains 256 rest b)) fi p);
      }

  pub reserve_spare : {cs : List (Cell X)} {bits first : List ℕ} {free fresh len : ℕ} {P : ℕ → X → Type 0} (w : Fine ahead P 0 cs bits first free fresh len) (next : ℕ) → next ≡ get_or (nexts cs) free 0 → free < length cs → Reserved ahead P free cs bits first next fresh len
  reserve_spare w next e lt = reserve w next e (w.chains 256) refl (chain_spare w) lt

  spare_none : (ns : List ℕ) (a : ℕ) (is : List ℕ) → Chain ns a is → length ns ≤ a → length is ≡ 0
  spare_none ns a [] h le = refl
  spare_none ns a (i ∷ is) h le = absurd (omega (arith, h.0, h.1))

  -- a cell that was not used yet
  pub reserve_fresh : {cs : List (Cell X)} {bits first : List ℕ} {free fresh len : ℕ} {P : ℕ → X → Type 0} (w : Fine ahead P 0 cs bits first free fresh len) → fresh < length cs → Reserved ahead P fresh cs bits first free (fresh + 1) len
  reserve_fresh w lt = record {
    fine = record {
      chains = w.chains;
      wide = w.wide;
      starts = w.starts;
      apart = w.apart;
      below = λ b i l p. let q = w.below b i l p in omega arith;
      fits = omega arith;
      count = omega (arith, w.count);
      held = w.held;
      rises = w.rises;
      lodged = w.lodged;
      marks = w.marks;
    };
    known = omega arith;
    loose = λ b l p. let q = w.below b _ l p in omega arith;
  }

  pub held_long : {out : ℕ} {cs : List (Cell X)} {bits first : List ℕ} {free fresh len : ℕ} {P : ℕ → X → Type 0} (w : Fine ahead P out cs bits first free fresh len) → length (in_cells ahead cs first) ≡ len
  held_long {out} {cs} w = ap length (held_is w) ∙ total_long o (λ b. picked (entries cs) (w.chains b)) w.chains 256 (λ k lt. picked_long (w.chains k) (λ i p. let q = w.below k i (omega arith) p in omega (arith, w.fits, length-entries cs))) ∙ w.held
    where
      picked_long : (ks : List ℕ) → ((i : ℕ) → In i ks → i < length (entries cs)) → length (picked (entries cs) ks) ≡ length ks
      picked_long [] h = refl
      picked_long (k ∷ ks) h = some (entries cs) k (h k (inl refl)) ∙ ap suc (picked_long ks (λ i p. h i (inr p)))
        where
          some : (xs : List X) (k : ℕ) → k < length xs → length (take 1 (drop k xs) ++ picked (entries cs) ks) ≡ suc (length (picked (entries cs) ks))
          some [] k l = absurd (omega arith)
          some (x ∷ xs) zero l = refl
          some (x ∷ xs) (suc k) l = some xs k (omega arith)

  pub full : {cs : List (Cell X)} {bits first : List ℕ} {free fresh len : ℕ} {P : ℕ → X → Type 0} (w : Fine ahead P 0 cs bits first free fresh len) → length cs ≤ free → length cs ≤ fresh → len ≡ length cs
  full {cs} w a b =
      let z = spare_none (nexts cs) _ (w.chains 256) (chain_spare w) (omega (arith, length-nexts cs)) in
      let s = sizes-last w.chains 256 in
      omega (arith, w.count, w.held, w.fits)

  pub not_full : {cs : List (Cell X)} {bits first : List ℕ} {free fresh len : ℕ} {new : ℕ} {P : ℕ → X → Type 0} → Reserved ahead P new cs bits first free fresh len → len < length cs
  not_full r = let s = sizes-last r.fine.chains 256 in omega (arith, r.fine.count, r.fine.held, r.fine.fits)

  -- ---- an entry goes into the reserved cell

  module _ {cs : List (Cell X)} {bits first : List ℕ} {free fresh len new : ℕ} {P : ℕ → X → Type 0} (r : Reserved ahead P new cs bits first free fresh len)
      (cs' : List (Cell X)) (bits' : List ℕ) (b start : ℕ) (e : X) (bl : b < 256) (here : P b e) (lk : Linked ahead cs cs' (r.fine.chains b) new e start)
      (size : length cs' ≡ length cs) (sl : start < length cs)
      (on : occupied bits' b ≡ 1) (others : (k : ℕ) → k < 256 → (k ≡ b → ⊥) → occupied bits' k ≡ occupied bits k) where
    old : ℕ → List ℕ
    old = r.fine.chains

    owner : (k i : ℕ) → In i (upd r.fine.chains b lk.js k) → In i (r.fine.chains k) ⊎ ((i ≡ new) × (k ≡ b))
    owner k i h = ⊎_elim
        (λ (q : k ≡ b). ⊎_elim (λ p. inl (in_at i (ap r.fine.chains (sym q)) p)) (λ n. inr (n, q)) (lk.from i (in_at i (upd_same r.fine.chains b lk.js k q) h)))
        (λ ne. inl (in_at i (upd_else r.fine.chains b lk.js k ne) h))
        (cases_eq k b)

    same-picked : (k : ℕ) → k < 257 → picked (entries cs') (r.fine.chains k) ≡ picked (entries cs) (r.fine.chains k)
    same-picked k l = ap (λ m. picked m (r.fine.chains k)) lk.same ∙ picked_else (entries cs) new e (r.fine.chains k) (r.loose k l)

    long_first : length (set first b start) ≡ 256
    long_first = length-set first b start ∙ r.fine.wide

    long_nexts : length (nexts cs') ≡ length (nexts cs)
    long_nexts = length-nexts cs' ∙ size ∙ sym (length-nexts cs)

    still_chain : (k a : ℕ) → k < 257 → (k ≡ b → ⊥) → Chain (nexts cs) a (r.fine.chains k) → Chain (nexts cs') a (upd r.fine.chains b lk.js k)
    still_chain k a l ne h = subst (Chain (nexts cs') a) (sym (upd_else r.fine.chains b lk.js k ne)) (chain_frame (nexts cs) (nexts cs') a (r.fine.chains k) long_nexts
        (λ j p. lk.frame j (λ q. ne (r.fine.apart k b j l (omega arith) p q)) (λ q. r.loose k l (subst (λ m. In m (r.fine.chains k)) q p))) h)

    pub placed : Fine ahead P 0 cs' bits' (set first b start) free fresh (len + 1)
    placed =
        let w = r.fine in
        let sz = sizes-upd w.chains b lk.js 257 (omega arith) in
        let sz' = sizes-upd w.chains b lk.js 256 bl in
        let js = lk.size in
        let wide = long_first in
        record {
          chains = upd w.chains b lk.js;
          wide = wide;
          starts = λ k l. ⊎_elim
              (λ (q : k ≡ 256). subst (λ m. Chain (nexts cs') m (upd w.chains b lk.js k)) (sym (starts_free (set first b start) free k wide q)) (still_chain k free l (omega arith) (subst (λ m. Chain (nexts cs) free (w.chains m)) (sym q) (chain_spare w))))
              (λ ne. subst (λ m. Chain (nexts cs') m (upd w.chains b lk.js k)) (sym (starts-at (set first b start) free k wide (omega arith))) (⊎_elim
              (λ (q : k ≡ b). subst (Chain (nexts cs') (get_or (set first b start) k 0)) (sym (upd_same w.chains b lk.js k q)) (subst (λ m. Chain (nexts cs') m lk.js) (sym (ap (λ m. get_or (set first b start) m 0) q ∙ get_or-set_same first b start 0 (omega (arith, w.wide)))) lk.chain))
              (λ nb. still_chain k (get_or (set first b start) k 0) l nb (subst (λ m. Chain (nexts cs) m (w.chains k)) (sym (get_or-set_other first b k start 0 nb)) (chain_bucket w k (omega arith))))
              (cases_eq k b)))
              (cases_eq k 256);
          apart = λ k m i kl ml p q. ⊎_elim
              (λ p'. ⊎_elim (λ q'. w.apart k m i kl ml p' q') (λ q'. absurd (r.loose k kl (subst (λ n. In n (w.chains k)) q'.0 p'))) (owner m i q))
              (λ p'. ⊎_elim (λ q'. absurd (r.loose m ml (subst (λ n. In n (w.chains m)) p'.0 q'))) (λ q'. p'.1 ∙ sym q'.1) (owner m i q))
              (owner k i p);
          below = λ k i kl p. ⊎_elim (w.below k i kl) (λ q. omega (arith, q.0, r.known)) (owner k i p);
          fits = omega (arith, w.fits);
          count = omega (arith, w.count);
          held = omega (arith, w.held);
          rises = λ k l. ⊎_elim
              (λ (q : k ≡ b). subst (λ m. Ascends ahead (picked (entries cs') m)) (sym (upd_same w.chains b lk.js k q)) (subst (Ascends ahead) (sym lk.holds) (ascends_inserted o e (picked (entries cs) (w.chains b)) (w.rises b bl))))
              (λ ne. subst (λ m. Ascends ahead (picked (entries cs') m)) (sym (upd_else w.chains b lk.js k ne)) (subst (Ascends ahead) (sym (same-picked k (omega arith))) (w.rises k l)))
              (cases_eq k b);
          lodged = λ k l. ⊎_elim
              (λ (q : k ≡ b). subst (λ m. AllByRecursion (P k) (picked (entries cs') m)) (sym (upd_same w.chains b lk.js k q)) (subst (AllByRecursion (P k)) (sym lk.holds) (all_inserted o (P k) e (picked (entries cs) (w.chains b)) (subst (λ m. P m e) (sym q) here) (subst (λ m. AllByRecursion (P m) (picked (entries cs) (w.chains b))) (sym q) (w.lodged b bl)))))
              (λ ne. subst (λ m. AllByRecursion (P k) (picked (entries cs') m)) (sym (upd_else w.chains b lk.js k ne)) (subst (AllByRecursion (P k)) (sym (same-picked k (omega arith))) (w.lodged k l)))
              (cases_eq k b);
          marks = λ k l. ⊎_elim
              (λ (q : k ≡ b). let at_b : get_or (set first b start) k 0 ≡ start = ap (λ m. get_or (set first b start) m 0) q ∙ get_or-set_same first b start 0 (omega (arith, w.wide)) in
              let oc = ap (occupied bits') q ∙ on in (λ _. omega arith, λ z. absurd (omega arith)))
              (λ ne. let at-k = get_or-set_other first b k start 0 ne in let oc = others k l ne in let old = w.marks k l in
              (λ z. let p = old.0 (sym oc ∙ z) in omega arith, λ z. let p = old.1 (sym oc ∙ z) in omega arith))
              (cases_eq k b);
        }

    pub placed_held : in_cells ahead cs' (set first b start) ≡ inserted ahead e (in_cells ahead cs first)
    unfolding placed
    placed_held = held_is placed ∙ total_insert o (λ k. picked (entries cs) (r.fine.chains k)) (λ k. picked (entries cs') (upd r.fine.chains b lk.js k)) b e 256 bl
        (λ k l ne. ap (picked (entries cs')) (upd_else r.fine.chains b lk.js k ne) ∙ same-picked k (omega arith))
        (ap (picked (entries cs')) (upd_same r.fine.chains b lk.js b refl) ∙ lk.holds)
        ∙ ap (inserted ahead e) (sym (held_is r.fine))

  -- ---- the first cell of a bucket is taken out

  head_on : (ns : List ℕ) (room next : ℕ) (rest : List ℕ) → length ns ≡ room → room ≤ 18446744073709551615 → Chain ns next rest → Chain ns (cond (ltb next room) next 18446744073709551615) rest
  head_on ns room next [] e le h = subst (λ m. length ns ≤ m) (sym (cond-false _ _ _ (le-ltb next room (omega arith)))) (omega arith)
  head_on ns room next (i ∷ rest) e le h = subst (λ m. Chain ns m (i ∷ rest)) (sym (cond-true (ltb next room) next 18446744073709551615 (lt-ltb next room (omega (arith, h.0, h.1))))) h

  module _ {cs : List (Cell X)} {bits first : List ℕ} {free fresh len : ℕ} {P : ℕ → X → Type 0} (w : Fine ahead P 0 cs bits first free fresh len)
      (bits' : List ℕ) (b i next : ℕ) (rest : List ℕ) (bl : b < 256) (is : w.chains b ≡ i ∷ rest) (nis : next ≡ get_or (nexts cs) i 0) (le : length cs ≤ 18446744073709551615)
      (on : occupied bits' b ≡ cond (ltb next (length cs)) 1 0) (others : (k : ℕ) → k < 256 → (k ≡ b → ⊥) → occupied bits' k ≡ occupied bits k) where
    abbrev pub begin : ℕ
    begin = cond (ltb next (length cs)) next 18446744073709551615

    pub unlinked : Reserved ahead P i cs bits' (set first b begin) free fresh (len - 1)
    unlinked =
        let sz = sizes-upd w.chains b rest 257 (omega arith) in
        let sz' = sizes-upd w.chains b rest 256 bl in
        let sl : length (w.chains b) ≡ suc (length rest) = ap length is in
        let wide : length (set first b begin) ≡ 256 = length-set first b begin ∙ w.wide in
        let at_b : get_or (set first b begin) b 0 ≡ begin = get_or-set_same first b begin 0 (omega (arith, w.wide)) in
        let fine : Fine ahead P 1 cs bits' (set first b begin) free fresh (len - 1) = record {
          chains = upd w.chains b rest;
          wide = wide;
          starts = λ k l. ⊎_elim
              (λ (q : k ≡ 256). subst (λ m. Chain (nexts cs) m (upd w.chains b rest k)) (sym (starts_free (set first b begin) free k wide q)) (subst (Chain (nexts cs) free) (sym (upd_else w.chains b rest k (omega arith))) (subst (λ m. Chain (nexts cs) free (w.chains m)) (sym q) (chain_spare w))))
              (λ ne. subst (λ m. Chain (nexts cs) m (upd w.chains b rest k)) (sym (starts-at (set first b begin) free k wide (omega arith))) (⊎_elim
              (λ (q : k ≡ b). subst (Chain (nexts cs) (get_or (set first b begin) k 0)) (sym (upd_same w.chains b rest k q)) (subst (λ m. Chain (nexts cs) m rest) (sym (ap (λ m. get_or (set first b begin) m 0) q ∙ at_b)) (head_on (nexts cs) (length cs) next rest (length-nexts cs) le (subst (λ m. Chain (nexts cs) m rest) (sym nis) (goes_on w b i next rest (omega arith) is)))))
              (λ nb. subst (λ m. Chain (nexts cs) m (upd w.chains b rest k)) (sym (get_or-set_other first b k begin 0 nb)) (subst (Chain (nexts cs) (get_or first k 0)) (sym (upd_else w.chains b rest k nb)) (chain_bucket w k (omega arith))))
              (cases_eq k b)))
              (cases_eq k 256);
          apart = λ k m j kl ml p q. w.apart k m j kl ml (inside w b i next rest (omega arith) is k j p) (inside w b i next rest (omega arith) is m j q);
          below = λ k j kl p. w.below k j kl (inside w b i next rest (omega arith) is k j p);
          fits = w.fits;
          count = omega (arith, w.count);
          held = omega (arith, w.held);
          rises = λ k l. ⊎_elim
              (λ (q : k ≡ b). subst (λ m. Ascends ahead (picked (entries cs) m)) (sym (upd_same w.chains b rest k q)) (ascends_rest (subst (λ m. Ascends ahead (picked (entries cs) m)) is (w.rises b bl))))
              (λ ne. subst (λ m. Ascends ahead (picked (entries cs) m)) (sym (upd_else w.chains b rest k ne)) (w.rises k l))
              (cases_eq k b);
          lodged = λ k l. ⊎_elim
              (λ (q : k ≡ b). subst (λ m. AllByRecursion (P k) (picked (entries cs) m)) (sym (upd_same w.chains b rest k q)) (all_rest (P k) (entries cs) i (picked (entries cs) rest) (subst (λ m. AllByRecursion (P m) (picked (entries cs) (i ∷ rest))) (sym q) (subst (λ m. AllByRecursion (P b) (picked (entries cs) m)) is (w.lodged b bl)))))
              (λ ne. subst (λ m. AllByRecursion (P k) (picked (entries cs) m)) (sym (upd_else w.chains b rest k ne)) (w.lodged k l))
              (cases_eq k b);
          marks = λ k l. ⊎_elim
              (λ (q : k ≡ b). let here = ap (λ m. get_or (set first b begin) m 0) q ∙ at_b in let oc = ap (occupied bits') q ∙ on in ⊎_elim
              (λ (lt : next < length cs). let t = lt-ltb next (length cs) lt in let v = here ∙ cond-true _ _ _ t in let u = oc ∙ cond-true _ _ _ t in (λ z. omega arith, λ z. absurd (omega arith)))
              (λ (ge : length cs ≤ next). let t = le-ltb next (length cs) ge in let v = here ∙ cond-false _ _ _ t in let u = oc ∙ cond-false _ _ _ t in (λ z. absurd (omega arith), λ z. omega arith))
              (cases_lt next (length cs)))
              (λ ne. let at-k = get_or-set_other first b k begin 0 ne in let oc = others k l ne in let old = w.marks k l in
              (λ z. let p = old.0 (sym oc ∙ z) in omega arith, λ z. let p = old.1 (sym oc ∙ z) in omega arith))
              (cases_eq k b);
        } in
        record { fine = fine; known = w.below b i (omega arith) (in_at i (sym is) (inl refl)); loose = λ k l p. lost w b i next rest (omega arith) is k l p }
      where
        ascends_rest : Ascends ahead (picked (entries cs) (i ∷ rest)) → Ascends ahead (picked (entries cs) rest)
        ascends_rest h = go (entries cs) i h
          where
            go : (xs : List X) (k : ℕ) → Ascends ahead (take 1 (drop k xs) ++ picked (entries cs) rest) → Ascends ahead (picked (entries cs) rest)
            go [] zero h = h
            go [] (suc k) h = h
            go (x ∷ xs) zero h = h.1
            go (x ∷ xs) (suc k) h = go xs k h

    behind_all : (x : X) (xs : List X) (y : X) (k : ℕ) → k < length xs → (ks : List ℕ) → Ascends ahead (take 1 (drop k xs) ++ picked (entries cs) ks) → ahead (get_or xs k y) x ≡ false → AllByRecursion (λ z. ahead z x ≡ false) (take 1 (drop k xs) ++ picked (entries cs) ks)
    behind_all x [] y k l ks h f = absurd (omega arith)
    behind_all x (z ∷ xs) y zero l ks h f = (f, All-weaker (λ v. ahead v z ≡ false) (λ v. ahead v x ≡ false) (λ v p. behind o v z x p f) (picked (entries cs) ks) h.0)
    behind_all x (z ∷ xs) y (suc k) l ks h f = behind_all x xs y k (omega arith) ks h f

    -- no entry of a chain is ahead of x where its first is not
    chain_behind : (x : X) (k : ℕ) → k < 256 → ((d : X) → occupied bits k ≡ 1 → ahead (get_or (entries cs) (get_or first k 0) d) x ≡ false) → (ks : List ℕ) → w.chains k ≡ ks → AllByRecursion (λ z. ahead z x ≡ false) (picked (entries cs) ks)
    chain_behind x k l f [] e = tt
    chain_behind x k l f (j ∷ ks) e =
        let c : Chain (nexts cs) (get_or first k 0) (j ∷ ks) = subst (Chain (nexts cs) (get_or first k 0)) e (chain_bucket w k l) in
        let inl' : j < length (entries cs) = omega (arith, c.1, length-nexts cs, length-entries cs) in
        let lit : occupied bits k ≡ 1 = ⊎_elim (λ (z : occupied bits k ≡ 0). absurd (let p = (w.marks k l).1 z in omega (arith, c.0, c.1, length-nexts cs))) (λ ne. omega (arith, bit_at-lt (get_or bits (k / 64) 0) (k % 64))) (cases_eq (occupied bits k) 0) in
        behind_all x (entries cs) x j inl' ks (subst (λ m. Ascends ahead (picked (entries cs) m)) e (w.rises k l)) (subst (λ m. ahead (get_or (entries cs) m x) x ≡ false) c.0 (f x lit))

    ascends_from : (xs : List X) (k : ℕ) (y : X) → k < length xs → Ascends ahead (take 1 (drop k xs) ++ picked (entries cs) rest) → AllByRecursion (λ z. ahead z (get_or xs k y) ≡ false) (picked (entries cs) rest)
    ascends_from [] k y l h = absurd (omega arith)
    ascends_from (x ∷ xs) zero y l h = h.0
    ascends_from (x ∷ xs) (suc k) y l h = ascends_from xs k y (omega arith) h

    -- no entry left is ahead of x, where no bucket's first was
    pub left_behind : (x : X) → ((d : X) → x ≡ get_or (entries cs) i d) → ((k : ℕ) → k < 256 → occupied bits k ≡ 1 → (d : X) → ahead (get_or (entries cs) (get_or first k 0) d) x ≡ false) → (k : ℕ) → k < 256 → AllByRecursion (λ z. ahead z x ≡ false) (picked (entries cs) (upd w.chains b rest k))
    left_behind x xis lead k l =
        let il : i < length (entries cs) = omega (arith, w.below b i (omega arith) (in_at i (sym is) (inl refl)), w.fits, length-entries cs) in
        ⊎_elim
        (λ (q : k ≡ b). subst (λ m. AllByRecursion (λ z. ahead z x ≡ false) (picked (entries cs) m)) (sym (upd_same w.chains b rest k q)) (subst (λ m. AllByRecursion (λ z. ahead z m ≡ false) (picked (entries cs) rest)) (sym (xis x)) (ascends_from (entries cs) i x il (subst (λ m. Ascends ahead (picked (entries cs) m)) is (w.rises b bl)))))
        (λ ne. subst (λ m. AllByRecursion (λ z. ahead z x ≡ false) (picked (entries cs) m)) (sym (upd_else w.chains b rest k ne)) (chain_behind x k l (λ d z. lead k l z d) (w.chains k) refl))
        (cases_eq k b)

    -- what is held without that cell
    pub unlinked_held : (x : X) → ((d : X) → x ≡ get_or (entries cs) i d) → ((k : ℕ) → k < 256 → occupied bits k ≡ 1 → (d : X) → ahead (get_or (entries cs) (get_or first k 0) d) x ≡ false) → in_cells ahead cs first ≡ x ∷ in_cells ahead cs (set first b begin)
    unfolding unlinked
    unlinked_held x xis lead =
        let il : i < length (entries cs) = omega (arith, w.below b i (omega arith) (in_at i (sym is) (inl refl)), w.fits, length-entries cs) in
        let f : ℕ → List X = λ k. picked (entries cs) (upd w.chains b rest k) in
        let g : ℕ → List X = λ k. picked (entries cs) (w.chains k) in
        let at_b : g b ≡ x ∷ f b = ap (picked (entries cs)) is ∙ ap (λ l. l ++ picked (entries cs) rest) (pick (entries cs) i x il ∙ ap (λ y. y ∷ []) (sym (xis x))) ∙ ap (λ l. x ∷ picked (entries cs) l) (sym (upd_same w.chains b rest b refl)) in
        held_is w ∙ total_cons o f g b x 256 bl (λ k l ne. ap (picked (entries cs)) (sym (upd_else w.chains b rest k ne))) at_b
        ∙ inserted-first o x (total ahead f 256) (all_total o (λ z. ahead z x ≡ false) f 256 (left_behind x xis lead))
        ∙ ap (λ l. x ∷ l) (sym (held_is unlinked.fine))

  -- ---- a cell is given back

  module _ {cs : List (Cell X)} {bits first : List ℕ} {free fresh len new : ℕ} {P : ℕ → X → Type 0} (r : Reserved ahead P new cs bits first free fresh len)
      (cs' : List (Cell X)) (size : length cs' ≡ length cs) (eis : entries cs' ≡ entries cs) (nis : nexts cs' ≡ set (nexts cs) new free) where
    long_next : length (nexts cs') ≡ length (nexts cs)
    long_next = length-nexts cs' ∙ size ∙ sym (length-nexts cs)

    frames : (k a : ℕ) → k < 257 → Chain (nexts cs) a (r.fine.chains k) → Chain (nexts cs') a (r.fine.chains k)
    frames k a l h = chain_frame (nexts cs) (nexts cs') a (r.fine.chains k) long_next
        (λ j p. ap (λ m. get_or m j 0) nis ∙ get_or-set_other (nexts cs) new j free 0 (λ q. r.loose k l (subst (λ m. In m (r.fine.chains k)) q p))) h

    had : (k i : ℕ) → In i (upd r.fine.chains 256 (new ∷ r.fine.chains 256) k) → In i (r.fine.chains k) ⊎ ((i ≡ new) × (k ≡ 256))
    had k i h = ⊎_elim
        (λ (q : k ≡ 256). ⊎_elim (λ n. inr (n, q)) (λ p. inl (in_at i (ap r.fine.chains (sym q)) p)) (in_at i (upd_same r.fine.chains 256 (new ∷ r.fine.chains 256) k q) h))
        (λ ne. inl (in_at i (upd_else r.fine.chains 256 (new ∷ r.fine.chains 256) k ne) h))
        (cases_eq k 256)

    pub released : Fine ahead P 0 cs' bits first new fresh len
    released =
        let w = r.fine in
        let spare : List ℕ = new ∷ w.chains 256 in
        let sz = sizes-upd w.chains 256 spare 257 (omega arith) in
        let nl : new < length (nexts cs) = omega (arith, r.known, w.fits, length-nexts cs) in
        let keeps : (k : ℕ) → k < 256 → upd w.chains 256 spare k ≡ w.chains k = λ k l. upd_else w.chains 256 spare k (omega arith) in
        record {
          chains = upd w.chains 256 spare;
          wide = w.wide;
          starts = λ k l. ⊎_elim
              (λ (q : k ≡ 256). subst (λ m. Chain (nexts cs') m (upd w.chains 256 spare k)) (sym (starts_free first new k w.wide q)) (subst (Chain (nexts cs') new) (sym (upd_same w.chains 256 spare k q))
              (refl, omega (arith, long_next), subst (λ m. Chain (nexts cs') m (w.chains 256)) (sym (ap (λ m. get_or m new 0) nis ∙ get_or-set_same (nexts cs) new free 0 nl)) (frames 256 free (omega arith) (chain_spare w)))))
              (λ ne. subst (λ m. Chain (nexts cs') m (upd w.chains 256 spare k)) (sym (starts-at first new k w.wide (omega arith))) (subst (Chain (nexts cs') (get_or first k 0)) (sym (keeps k (omega arith))) (frames k (get_or first k 0) l (chain_bucket w k (omega arith)))))
              (cases_eq k 256);
          apart = λ k m i kl ml p q. ⊎_elim
              (λ p'. ⊎_elim (λ q'. w.apart k m i kl ml p' q') (λ q'. absurd (r.loose k kl (subst (λ n. In n (w.chains k)) q'.0 p'))) (had m i q))
              (λ p'. ⊎_elim (λ q'. absurd (r.loose m ml (subst (λ n. In n (w.chains m)) p'.0 q'))) (λ q'. p'.1 ∙ sym q'.1) (had m i q))
              (had k i p);
          below = λ k i kl p. ⊎_elim (w.below k i kl) (λ q. omega (arith, q.0, r.known)) (had k i p);
          fits = omega (arith, w.fits);
          count = omega (arith, w.count);
          held = sizes_past w.chains 256 spare 256 (omega arith) ∙ w.held;
          rises = λ k l. subst (λ m. Ascends ahead (picked (entries cs') m)) (sym (keeps k l)) (subst (λ m. Ascends ahead (picked m (w.chains k))) (sym eis) (w.rises k l));
          lodged = λ k l. subst (λ m. AllByRecursion (P k) (picked (entries cs') m)) (sym (keeps k l)) (subst (λ m. AllByRecursion (P k) (picked m (w.chains k))) (sym eis) (w.lodged k l));
          marks = λ k l. let old = w.marks k l in (λ z. let p = old.0 z in omega arith, λ z. let p = old.1 z in omega arith);
        }

    pub released_held : in_cells ahead cs' first ≡ in_cells ahead cs first
    unfolding released
    released_held = held_is released ∙ total_same o (λ k. picked (entries cs) (r.fine.chains k)) (λ k. picked (entries cs') (upd r.fine.chains 256 (new ∷ r.fine.chains 256) k)) 256
        (λ k l. ap (picked (entries cs')) (upd_else r.fine.chains 256 (new ∷ r.fine.chains 256) k (omega arith)) ∙ ap (λ m. picked m (r.fine.chains k)) eis) ∙ sym (held_is r.fine)

  -- ---- nothing held

  module _ (cs : List (Cell X)) (bits first : List ℕ) (bis : bits ≡ replicate 4 0) (fis : first ≡ replicate 256 18446744073709551615) (le : length cs ≤ 18446744073709551615) where
    far : (b : ℕ) → b < 256 → get_or first b 0 ≡ 18446744073709551615
    far b l = ap (λ m. get_or m b 0) fis ∙ get_or-replicate 256 b 18446744073709551615 0 l

    pub empty : {P : ℕ → X → Type 0} → Fine ahead P 0 cs bits first 18446744073709551615 0 0
    empty =
        let wide : length first ≡ 256 = ap length fis ∙ length-replicate {A = ℕ} 256 18446744073709551615 in
        record {
          chains = λ _. [];
          wide = wide;
          starts = λ k l. ⊎_elim
              (λ (q : k ≡ 256). omega (arith, starts_free first 18446744073709551615 k wide q, length-nexts cs))
              (λ ne. omega (arith, starts-at first 18446744073709551615 k wide (omega arith), far k (omega arith), length-nexts cs))
              (cases_eq k 256);
          apart = λ b k i bl kl p q. absurd p;
          below = λ b i bl p. absurd p;
          fits = omega arith;
          count = omega (arith, sizes_none (λ _. []) 257 (λ _. refl));
          held = sizes_none (λ _. []) 256 (λ _. refl);
          rises = λ b l. tt;
          lodged = λ b l. tt;
          marks = λ k l. (λ z. absurd (let q = ap (λ m. occupied m k) bis in let p = get_or-replicate 4 (k / 64) 0 0 (omega arith) in let v = ap (λ m. bit_at m (k % 64)) p ∙ bit_at-zero (k % 64) in omega arith), λ z. omega (arith, far k l));
        }

    pub empty-held : in_cells ahead cs first ≡ []
    unfolding empty
    empty-held = held_is (empty {P = λ _ _. Unit {0}}) ∙ total_none o (λ k. []) 256 (λ k l. refl)

  -- nothing is held where no bit is set
  pub clear_held : {cs : List (Cell X)} {bits first : List ℕ} {free fresh len : ℕ} {P : ℕ → X → Type 0} (w : Fine ahead P 0 cs bits first free fresh len) → Clear (occupied bits) 0 256 → in_cells ahead cs first ≡ []
  clear_held {cs} {bits} {first} w h = held_is w ∙ total_none o (λ k. picked (entries cs) (w.chains k)) 256 (λ k l. ap (picked (entries cs)) (nil_from_length (w.chains k) (spare_none (nexts cs) (get_or first k 0) (w.chains k) (chain_bucket w k l) (omega (arith, (w.marks k l).1 (h k (omega arith) l), length-nexts cs)))))

  -- a bucket that begins in the cells
  pub head_cell : {cs : List (Cell X)} {bits first : List ℕ} {free fresh len : ℕ} {P : ℕ → X → Type 0} (w : Fine ahead P 0 cs bits first free fresh len) (b i : ℕ) → b < 256 → i ≡ get_or first b 0 → i < length cs → (rest : List ℕ) × (w.chains b ≡ i ∷ rest)
  head_cell {cs} {bits} {first} w b i bl e lt = go (w.chains b) (subst (λ m. Chain (nexts cs) m (w.chains b)) (sym e) (chain_bucket w b bl))
    where
      go : (is : List ℕ) → Chain (nexts cs) i is → (rest : List ℕ) × (is ≡ i ∷ rest)
      go [] h = absurd (omega (arith, h, length-nexts cs))
      go (j ∷ is) h = (is, ap (λ m. m ∷ is) (sym h.0))

  -- every first entry of a bucket is lodged there
  pub firsts-lodged : {cs : List (Cell X)} {bits first : List ℕ} {free fresh len : ℕ} {P : ℕ → X → Type 0} (w : Fine ahead P 0 cs bits first free fresh len) (k : ℕ) → k < 256 → occupied bits k ≡ 1 → (d : X) → P k (get_or (entries cs) (get_or first k 0) d)
  firsts-lodged {cs} {bits} {first} {free} {fresh} {len} {P} w k l oc d =
      let lt : get_or first k 0 < length cs = (w.marks k l).0 oc in
      let h = head_cell w k (get_or first k 0) l refl lt in
      all_first (P k) (entries cs) (get_or first k 0) (picked (entries cs) h.0) d (omega (arith, length-entries cs)) (subst (λ m. AllByRecursion (P k) (picked (entries cs) m)) h.1 (w.lodged k l))

  -- another thing that holds of every entry
  pub relodged : {cs : List (Cell X)} {bits first : List ℕ} {free fresh len new : ℕ} {P Q : ℕ → X → Type 0} (r : Reserved ahead P new cs bits first free fresh len) → ((k : ℕ) → k < 256 → AllByRecursion (Q k) (picked (entries cs) (r.fine.chains k))) → Reserved ahead Q new cs bits first free fresh len
  relodged r h =
      let w = r.fine in
      record {
        fine = record { chains = w.chains; wide = w.wide; starts = w.starts; apart = w.apart; below = w.below; fits = w.fits; count = w.count; held = w.held; rises = w.rises; lodged = h; marks = w.marks };
        known = r.known;
        loose = r.loose;
      }

  -- a lower bound may be lowered
  pub lowered : {cs : List (Cell X)} {bits first : List ℕ} {free fresh len new low : ℕ} (r : Reserved ahead (Lodged minute_of low) new cs bits first free fresh len) (low' : ℕ) → low' ≤ low → Reserved ahead (Lodged minute_of low') new cs bits first free fresh len
  lowered {cs} {low = low} r low' le = relodged r (λ k l. All-weaker (Lodged minute_of low k) (Lodged minute_of low' k) (λ x p. (p.0, omega (arith, p.1))) (picked (entries cs) (r.fine.chains k)) (r.fine.lodged k l))

  -- and raised to the minute of an entry that none is ahead of
  not_before : (x y : X) → ahead y x ≡ false → minute_of x ≤ minute_of y
  not_before x y f = ⊎_elim (λ (lt : minute_of y < minute_of x). absurd (both_ways (ahead y x) f (o.earlier y x lt))) (λ ge. ge) (cases_lt (minute_of y) (minute_of x))

  pub raised : {cs : List (Cell X)} {bits first : List ℕ} {free fresh len new low : ℕ} (r : Reserved ahead (Lodged minute_of low) new cs bits first free fresh len) (x : X) → ((k : ℕ) → k < 256 → AllByRecursion (λ z. ahead z x ≡ false) (picked (entries cs) (r.fine.chains k))) → Reserved ahead (Lodged minute_of (minute_of x)) new cs bits first free fresh len
  raised {cs} {low = low} r x h = relodged r (λ k l. all_both (Lodged minute_of (minute_of x) k) (Lodged minute_of low k) (λ z. ahead z x ≡ false) (λ z p f. (p.0, not_before x z f)) (picked (entries cs) (r.fine.chains k)) (r.fine.lodged k l) (h k l))

  -- the first cell of a bucket is taken out, and its entry is one that none is ahead of
  pub taken_out : {cs : List (Cell X)} {bits first : List ℕ} {free fresh len low : ℕ} (w : Fine ahead (Lodged minute_of low) 0 cs bits first free fresh len) (bits' : List ℕ) (b i next : ℕ) (rest : List ℕ) (bl : b < 256) (is : w.chains b ≡ i ∷ rest) (nis : next ≡ get_or (nexts cs) i 0) (le : length cs ≤ 18446744073709551615) (on : occupied bits' b ≡ cond (ltb next (length cs)) 1 0) (others : (k : ℕ) → k < 256 → (k ≡ b → ⊥) → occupied bits' k ≡ occupied bits k) (x : X) → ((d : X) → x ≡ get_or (entries cs) i d) → ((k : ℕ) → k < 256 → occupied bits k ≡ 1 → (d : X) → ahead (get_or (entries cs) (get_or first k 0) d) x ≡ false) → Reserved ahead (Lodged minute_of (minute_of x)) i cs bits' (set first b (cond (ltb next (length cs)) next 18446744073709551615)) free fresh (len - 1)
  unfolding unlinked
  taken_out w bits' b i next rest bl is nis le on others x xis lead = raised (unlinked w bits' b i next rest bl is nis le on others) x (left_behind w bits' b i next rest bl is nis le on others x xis lead)
