-- The check of the unbeaten pairs is sound.
use Rattle.std.proofs.Common.{◌≡◌, ℕ, ◌+◌, ◌*◌, ◌/◌, ◌%◌, ◌<◌, ◌≤◌, Bool, true, false, not, ◌&&◌, ◌||◌, eqb, leb, ◌⊎◌, List, [], ◌∷◌, ℤ, pos, negsuc, ◌+ℤ◌, ◌*ℤ◌, neg_ℤ, ◌≤ℤ◌, ◌<ℤ◌, sym, refl, ap, ◌∙◌, subst, inl, inr, mod-lt, mod-eq_of_lt, arith}
use native.Mathlib.Nat.{div-add-mod}
use borrow.Author.Differences.{ints}
use Rattle.std.proofs.lemmas.Bool.{and_from, and_parts, or_cases, both_ways, not-true, eq-eqb, eqb-true, cases_Bool, leb-true}
use Rattle.std.proofs.lemmas.Bool.Decides.{nat_tests}
use Rattle.timetable.specs.Table.{Table, stations, ahead, Lawful}
use Rattle.timetable.specs.Pairs.{Travels, Beats, Unbeaten}
use Rattle.journeys.specs.Search.{Entry, Mem, here, there, Done}
use Rattle.journeys.specs.Theorems.{ways}
use Rattle.journeys.specs.Checked.{all_of, any_of}
use Rattle.journeys.specs.Chosen.{moved}
use Rattle.journeys.specs.Profiles.{leaving_of, next_of, next_arrival, unbeaten_in, Listed, ProfileSound, Among, pair_of, any_pair, all_pairs, ProfileChecked, ArrivalChecked}
use Rattle.journeys.proofs.Clock.{after_least, leaves}
use Rattle.journeys.proofs.Pairs.{opposite, same_or_less, shift_travels, reached_pair, Found, settled_leads, find, finished}
use Rattle.journeys.proofs.Unbeaten.{moved_unbeaten, leaves-first, low_at, at_zero, travels_at}
use Rattle.journeys.proofs.Checking.{all_at, any_at, done}

all_of_from : (p : Entry → Bool) (l : List Entry) → ((g : Entry) → Mem g l → p g ≡ true) → all_of p l ≡ true
all_of_from p [] h = refl
all_of_from p (x ∷ l) h = and_from (p x) (all_of p l) (h x here) (all_of_from p l (λ g m. h g (there m)))

module _ (t : Table) (l : Lawful t) (s v : ℕ) (station : v < stations t) (full : List Entry) (fin : Done (ways t s) full) where
  abbrev leaving : Entry → ℕ
  leaving e = leaving_of t s e

  -- an unbeaten pair is any pair that covers it
  same_pair : (d a x y : ℤ) → Unbeaten t s v d a → Travels t s v x y → d ≤ℤ x → y ≤ℤ a → (d ≡ x) × (y ≡ a)
  same_pair d a x y u h hx hy = by_case (same_or_less d x hx) (same_or_less y a hy)
    where
      by_case : (d ≡ x) ⊎ (d <ℤ x) → (y ≡ a) ⊎ (y <ℤ a) → (d ≡ x) × (y ≡ a)
      by_case (inl e) (inl f) = (e, f)
      by_case (inr e) q = absurd (u.unbeaten x y h (record { no_earlier = hx; no_later = hy; differs = λ z. omega (arith, ints, z.0) }))
      by_case (inl e) (inr f) = absurd (u.unbeaten x y h (record { no_earlier = hx; no_later = hy; differs = λ z. omega (arith, ints, z.1) }))

  -- an unbeaten pair is that of a settled label, moved by whole periods
  pub settled_by : (d a : ℤ) → Unbeaten t s v d a → (f : Found t l s v station full fin d a) × (d ≡ moved t (leaving f.by) f.periods) × (moved t f.by.minute f.periods ≡ a)
  settled_by d a u =
      let f = find t l s v station full fin d a u.travels in
      let h = shift_travels t f.periods s v _ _ (reached_pair t l s v station f.by.rank f.by.minute (settled_leads t l s v station full fin f.by f.settled f.place).label.reached) in
      let e = same_pair d a _ _ u h f.departs f.arrives in
      (f, e.0, e.1)

  zero_periods : (x y p : ℕ) (k : ℤ) → x < p → y < p → pos x ≡ pos y +ℤ k *ℤ pos p → x ≡ y
  zero_periods x y p k hx hy e = sym (mod-eq_of_lt hx) ∙ leaves y p x hy k e

  -- a label that passes, from what the test says of one other
  abbrev shows_pair : Entry → Entry → Bool
  shows_pair e g = not (eqb g.place v) || (not (leb (next_arrival t s e g) e.minute) || (eqb (next_of t s e g) (leaving e) && eqb (next_arrival t s e g) e.minute))

  test_from : (p q a m n d : ℕ) → (p ≡ q → a ≤ m → (n ≡ d) × (a ≡ m)) → (not (eqb p q) || (not (leb a m) || (eqb n d && eqb a m))) ≡ true
  test_from p q a m n d h = on (cases_Bool (eqb p q)) (cases_Bool (leb a m))
    where
      on : (eqb p q ≡ true) ⊎ (eqb p q ≡ false) → (leb a m ≡ true) ⊎ (leb a m ≡ false) → (not (eqb p q) || (not (leb a m) || (eqb n d && eqb a m))) ≡ true
      on (inr e) f = grind (arith, nat_tests)
      on (inl e) (inr f) = grind (arith, nat_tests)
      on (inl e) (inl f) = let z = h (eqb-true p q e) (leb-true a m f) in let u = z.0 in let w = z.1 in grind (arith, nat_tests)

  test_says : (p q a m n d : ℕ) → (not (eqb p q) || (not (leb a m) || (eqb n d && eqb a m))) ≡ true → p ≡ q → a ≤ m → (n ≡ d) × (a ≡ m)
  test_says p q a m n d h e f = (grind (arith, nat_tests), grind (arith, nat_tests))

  listed : (x : ℕ) (y : ℤ) → x < t.period → Unbeaten t s v (pos x) y → Listed t s v full x y
  listed x y lt u = on (settled_by (pos x) y u)
    where
      on : (f : Found t l s v station full fin (pos x) y) × (pos x ≡ moved t (leaving f.by) f.periods) × (moved t f.by.minute f.periods ≡ y) → Listed t s v full x y
      on (f, ex, ey) = record { by = e; in_it = f.settled; passes = and_from _ _ (eq-eqb _ _ f.place) (all_of_from (shows_pair e) full passes'); departs = same; arrives = arr }
        where
          e : Entry
          e = f.by

          same : x ≡ leaving f.by
          same = zero_periods x (leaving f.by) t.period f.periods lt (low_at t l s v station full fin f.by f.settled f.place) ex

          arr : y ≡ pos f.by.minute
          arr = omega (arith, ints, ex, ey, same)

          passes' : (g : Entry) → Mem g full → shows_pair f.by g ≡ true
          passes' g m = test_from g.place v (next_arrival t s f.by g) f.by.minute (next_of t s f.by g) (leaving f.by) one
            where
              one : g.place ≡ v → next_arrival t s f.by g ≤ f.by.minute → (next_of t s f.by g ≡ leaving f.by) × (next_arrival t s f.by g ≡ f.by.minute)
              one q h =
                  let z = same_pair (pos x) y _ _ u (travels_at t l s v station full fin (leaving f.by) g m q) (omega (arith, ints, same)) (omega (arith, ints, arr)) in
                  (omega (arith, ints, z.0, same), omega (arith, ints, z.1, arr))

  unlisted : (x : ℕ) (y : ℤ) → Listed t s v full x y → Unbeaten t s v (pos x) y
  unlisted x y w = rw (w.departs, w.arrives) (record { travels = reached_pair t l s v station e.rank e.minute (settled_leads t l s v station full fin e w.in_it place).label.reached; unbeaten = none })
    where
      e : Entry
      e = w.by

      both : (eqb w.by.place v ≡ true) × (all_of (shows_pair w.by) full ≡ true)
      both = and_parts (eqb w.by.place v) (all_of (shows_pair w.by) full) w.passes

      place : w.by.place ≡ v
      place = eqb-true _ _ both.0

      none : (d' a' : ℤ) → Travels t s v d' a' → Beats d' a' (pos (leaving w.by)) (pos w.by.minute) → ⊥
      none d' a' h b =
          let f = find t l s v station full fin d' a' h in
          let g = f.by in
          let lo = leaves-first t l s v station full fin g f.settled f.place in
          let lw = low_at t l s v station full fin g f.settled f.place in
          let z = at_zero t l s v station full fin (moved t (leaving g) f.periods) (leaving w.by) (omega (arith, ints, f.departs, b.no_earlier)) in
          let c : z.0 % t.period ≡ leaving g = leaves (leaving g) t.period z.0 lw f.periods (sym z.1) in
          let first : next_of t s w.by g ≤ z.0 = after_least (leaving g) t.period lw (leaving w.by) z.0 c z.2 in
          let y = test_says g.place v (next_arrival t s w.by g) w.by.minute (next_of t s w.by g) (leaving w.by) (all_at (shows_pair w.by) full both.1 g f.settled) f.place (omega (arith, ints, z.1, f.arrives, b.no_later)) in
          b.differs (omega (arith, ints, z.1, f.departs, f.arrives, b.no_earlier, b.no_later, y.0, y.1), omega (arith, ints, z.1, f.departs, f.arrives, b.no_earlier, b.no_later, y.0, y.1))

pub profile_sound : ProfileSound
profile_sound t l s v k full h x y lt = (listed t l s v k full (done t l s full h) x y lt, unlisted t l s v k full (done t l s full h) x y)

-- every unbeaten pair is one of the present period, moved by whole periods
pub periodic : (t : Table) → Lawful t → (s v : ℕ) → v < stations t → (d a : ℤ) → Unbeaten t s v d a → (x : ℕ) × (k : ℤ) × (x < t.period) × (d ≡ moved t x k) × Unbeaten t s v (pos x) (a +ℤ neg_ℤ k *ℤ pos t.period)
periodic t l s v station d a u =
    let q = finished t l s in
    let b = settled_by t l s v station q.0 q.1 d a u in
    let e = b.0.by in
    let k = b.0.periods in
    let x = leaving_of t s e in
    let back : d +ℤ neg_ℤ k *ℤ pos t.period ≡ pos x = omega (arith, ints, b.1, opposite k t.period) in
    (x, k, low_at t l s v station q.0 q.1 e b.0.settled b.0.place, b.1, subst (λ (z : ℤ). Unbeaten t s v z (a +ℤ neg_ℤ k *ℤ pos t.period)) back (moved_unbeaten t l s v station (neg_ℤ k) d a u))

-- ---- lists of pairs

any_pair_at : (q : ℕ × ℕ → Bool) (ps : List (ℕ × ℕ)) → any_pair q ps ≡ true → (P : ℕ → ℤ → Type 0) → ((p : ℕ × ℕ) → q p ≡ true → P p.0 (pos p.1)) → (x : ℕ) × (y : ℕ) × P x (pos y) × Among x (pos y) ps
any_pair_at q [] h P f = absurd (both_ways false refl h)
any_pair_at q (p ∷ ps) h P f = elim (or_cases (q p) (any_pair q ps) h) [ inl k ↦ (p.0, p.1, f p k, inl (refl, refl)) | inr k ↦ (let z = any_pair_at q ps k P f in (z.0, z.1, z.2, inr z.3)) ]

all_pairs_at : (q : ℕ × ℕ → Bool) (ps : List (ℕ × ℕ)) → all_pairs q ps ≡ true → (x : ℕ) (y : ℤ) → Among x y ps → (n : ℕ) × (y ≡ pos n) × (q (x, n) ≡ true)
all_pairs_at q [] h x y m = absurd m
all_pairs_at q (p ∷ ps) h x y (inl e) = (p.1, e.1, subst (λ (z : ℕ). q (z, p.1) ≡ true) (sym e.0) (and_parts (q p) (all_pairs q ps) h).0)
all_pairs_at q (p ∷ ps) h x y (inr m) = all_pairs_at q ps (and_parts (q p) (all_pairs q ps) h).1 x y m

pub profile_checked : ProfileChecked
profile_checked t l s v k full c ps h x y lt = (to, from)
  where
    parts : (all_of (λ e. not (unbeaten_in t s v full e) || any_pair (pair_of t s e) ps) full ≡ true) × (all_pairs (λ p. any_of (λ e. unbeaten_in t s v full e && pair_of t s e p) full) ps ≡ true)
    parts = and_parts (all_of (λ e. not (unbeaten_in t s v full e) || any_pair (pair_of t s e) ps) full) _ h

    to : Unbeaten t s v (pos x) y → Among x y ps
    to u = on ((profile_sound t l s v k full c x y lt).0 u)
      where
        on : Listed t s v full x y → Among x y ps
        on w = subst (λ (z : ℤ). Among x z ps) (sym w.arrives) (subst (λ (z : ℕ). Among z (pos w.by.minute) ps) (sym w.departs) (found (or_cases (not (unbeaten_in t s v full w.by)) (any_pair (pair_of t s w.by) ps) (all_at (λ e. not (unbeaten_in t s v full e) || any_pair (pair_of t s e) ps) full parts.0 w.by w.in_it))))
          where
            found : (not (unbeaten_in t s v full w.by) ≡ true) ⊎ (any_pair (pair_of t s w.by) ps ≡ true) → Among (leaving_of t s w.by) (pos w.by.minute) ps
            found (inl n) = absurd (both_ways (unbeaten_in t s v full w.by) (not-true _ n) w.passes)
            found (inr q) =
                let z = any_pair_at (pair_of t s w.by) ps q (λ a b. (a ≡ leaving_of t s w.by) × (b ≡ pos w.by.minute)) (λ p r. let g = and_parts (eqb (leaving_of t s w.by) p.0) (eqb w.by.minute p.1) r in (sym (eqb-true _ _ g.0), ap pos (sym (eqb-true _ _ g.1)))) in
                subst (λ (a : ℕ). Among a (pos w.by.minute) ps) z.2.0 (subst (λ (b : ℤ). Among z.0 b ps) z.2.1 z.3)

    from : Among x y ps → Unbeaten t s v (pos x) y
    from m = on (all_pairs_at (λ p. any_of (λ e. unbeaten_in t s v full e && pair_of t s e p) full) ps parts.1 x y m)
      where
        on : (n : ℕ) × (y ≡ pos n) × (any_of (λ e. unbeaten_in t s v full e && pair_of t s e (x, n)) full ≡ true) → Unbeaten t s v (pos x) y
        on (n, e, q) =
            let z = any_at (λ e. unbeaten_in t s v full e && pair_of t s e (x, n)) full q in
            let g = and_parts (unbeaten_in t s v full z.0) (pair_of t s z.0 (x, n)) z.2 in
            let r = and_parts (eqb (leaving_of t s z.0) x) (eqb z.0.minute n) g.1 in
            (profile_sound t l s v k full c x y lt).1 (record { by = z.0; in_it = z.1; passes = g.0; departs = sym (eqb-true _ _ r.0); arrives = e ∙ ap pos (sym (eqb-true _ _ r.1)) })

pub arrival_checked : ArrivalChecked
arrival_checked t l s v k ps profile n d a h = record { unbeaten = is; late_enough = omega (arith, ints, leb-true n d rest.0); first = first' }
  where
    parts : (any_pair (λ p. eqb (d % t.period) p.0 && eqb (a + p.0) (p.1 + d)) ps ≡ true) × ((leb n d && all_pairs (λ p. leb d (n + ahead t.period n p.0)) ps) ≡ true)
    parts = and_parts (any_pair (λ p. eqb (d % t.period) p.0 && eqb (a + p.0) (p.1 + d)) ps) _ h

    rest : (leb n d ≡ true) × (all_pairs (λ p. leb d (n + ahead t.period n p.0)) ps ≡ true)
    rest = and_parts (leb n d) _ parts.1

    is : Unbeaten t s v (pos d) (pos a)
    is =
        let z = any_pair_at (λ p. eqb (d % t.period) p.0 && eqb (a + p.0) (p.1 + d)) ps parts.0 (λ x y. (d % t.period ≡ x) × (pos a +ℤ pos x ≡ y +ℤ pos d)) (λ p r. let g = and_parts (eqb (d % t.period) p.0) (eqb (a + p.0) (p.1 + d)) r in (eqb-true _ _ g.0, ap pos (eqb-true _ _ g.1))) in
        let x = z.0 in
        let lt : x < t.period = omega (arith, z.2.0, mod-lt d {m = t.period} l.period_low) in
        let u = (profile x (pos z.1) lt).1 z.3 in
        let q = d / t.period in
        let eq : t.period * q + d % t.period ≡ d = div-add-mod d t.period in
        let ed : pos x +ℤ pos q *ℤ pos t.period ≡ pos d = ap pos (omega (arith, z.2.0)) in
        let ea : pos z.1 +ℤ pos q *ℤ pos t.period ≡ pos a = omega (arith, ints, z.2.0, z.2.1, ed) in
        rw (ed, ea) at (moved_unbeaten t l s v k (pos q) (pos x) (pos z.1) u)

    first' : (d' a' : ℤ) → Unbeaten t s v d' a' → pos n ≤ℤ d' → pos d ≤ℤ d'
    first' d' a' u hn =
        let w = periodic t l s v k d' a' u in
        let m = (profile w.0 _ w.2).0 w.4 in
        let q = all_pairs_at (λ p. leb d (n + ahead t.period n p.0)) ps rest.1 w.0 _ m in
        let z = natural d' n hn in
        let c : z.0 % t.period ≡ w.0 = leaves w.0 t.period z.0 w.2 w.1 (sym z.1 ∙ w.3) in
        let later = after_least w.0 t.period w.2 n z.0 c z.2 in
        omega (arith, ints, z.1, leb-true _ _ q.2)
      where
        natural : (x : ℤ) (n : ℕ) → pos n ≤ℤ x → (m : ℕ) × (x ≡ pos m) × (n ≤ m)
        natural (pos m) n h = (m, refl, omega (arith, ints))
        natural (negsuc m) n h = absurd (omega (arith, ints))
