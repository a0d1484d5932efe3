-- Every itinerary is covered by an unbeaten pair: of the settled labels that cover it, one of the shortest travel time.
use Rattle.std.proofs.Common.{◌≡◌, ℕ, ◌+◌, ◌-◌, ◌*◌, ◌/◌, ◌%◌, ◌<◌, ◌≤◌, Bool, true, false, ◌&&◌, eqb, leb, ◌⊎◌, List, [], ◌∷◌, ℤ, pos, negsuc, ◌+ℤ◌, ◌*ℤ◌, neg_ℤ, ◌≤ℤ◌, ◌<ℤ◌, sym, refl, ap, subst, inl, inr, arith}
use borrow.Author.Differences.{ints}
use Rattle.std.proofs.lemmas.Bool.{and_from, and_parts, eq-eqb, eqb-true, le-leb, leb-true, cases_Bool, cases_lt, both_ways}
use Rattle.timetable.specs.Table.{Table, at, stations, Lawful}
use Rattle.timetable.specs.Pairs.{Travels, Beats, Unbeaten}
use Rattle.timetable.specs.Labels.{rank_connection}
use Rattle.journeys.specs.Search.{Entry, Mem, here, there, Done}
use Rattle.journeys.specs.Theorems.{ways}
use Rattle.journeys.specs.Chosen.{moved, UnbeatenCover, UnbeatenAlways, FirstUnbeaten}
use Rattle.journeys.proofs.Clock.{after, after_is, after_least, leaves, times}
use Rattle.journeys.proofs.Walk.{low}
use Rattle.journeys.proofs.Firsts.{ordered}
use Rattle.journeys.proofs.Ways.{labels}
use Rattle.journeys.proofs.Exactly.{not_before}
use Rattle.journeys.proofs.Pairs.{distribute, opposite, shift_travels, reached_pair, Found, settled_leads, find, finished}

-- of the entries of a list that pass a test, one with the least value
record Least (p : Entry → Bool) (f : Entry → ℕ) (l : List Entry) : Type 0 where
  e : Entry
  in_it : Mem e l
  pub passes : p e ≡ true
  least : (g : Entry) → Mem g l → p g ≡ true → f e ≤ f g

module _ (p : Entry → Bool) (f : Entry → ℕ) where
  least : (l : List Entry) → Least p f l ⊎ ((g : Entry) → Mem g l → p g ≡ true → ⊥)
  least [] = inr (λ g m. elim m [ ])
  least (x ∷ l) = on (cases_Bool (p x)) (least l)
    where
      on : (p x ≡ true) ⊎ (p x ≡ false) → Least p f l ⊎ ((g : Entry) → Mem g l → p g ≡ true → ⊥) → Least p f (x ∷ l) ⊎ ((g : Entry) → Mem g (x ∷ l) → p g ≡ true → ⊥)
      on (inl y) (inr n) = inl (record { e = x; in_it = here; passes = y; least = least' })
        where
          least' : (g : Entry) → Mem g (x ∷ l) → p g ≡ true → f x ≤ f g
          least' g here q = omega arith
          least' g (there m) q = absurd (n g m q)
      on (inl y) (inl b) = by_size (cases_lt (f x) (f b.e))
        where
          by_size : (f x < f b.e) ⊎ (f b.e ≤ f x) → Least p f (x ∷ l) ⊎ ((g : Entry) → Mem g (x ∷ l) → p g ≡ true → ⊥)
          by_size (inl lt) = inl (record { e = x; in_it = here; passes = y; least = least' })
            where
              least' : (g : Entry) → Mem g (x ∷ l) → p g ≡ true → f x ≤ f g
              least' g here q = omega arith
              least' g (there m) q = omega (arith, b.least g m q)
          by_size (inr ge) = inl (record { e = b.e; in_it = there b.in_it; passes = b.passes; least = least' })
            where
              least' : (g : Entry) → Mem g (x ∷ l) → p g ≡ true → f b.e ≤ f g
              least' g here q = ge
              least' g (there m) q = b.least g m q
      on (inr y) (inl b) = inl (record { e = b.e; in_it = there b.in_it; passes = b.passes; least = least' })
        where
          least' : (g : Entry) → Mem g (x ∷ l) → p g ≡ true → f b.e ≤ f g
          least' g here q = absurd (both_ways (p x) y q)
          least' g (there m) q = b.least g m q
      on (inr y) (inr n) = inr none
        where
          none : (g : Entry) → Mem g (x ∷ l) → p g ≡ true → ⊥
          none g here q = both_ways (p x) y q
          none g (there m) q = n g m q

module _ (t : Table) (l : Lawful t) (s v : ℕ) (station : v < stations t) where
  abbrev pub leaving : Entry → ℕ
  leaving e = (at t (rank_connection t s e.rank)).departure

  -- an unbeaten pair, moved by whole periods
  pub moved_unbeaten : (k : ℤ) (d a : ℤ) → Unbeaten t s v d a → Unbeaten t s v (d +ℤ k *ℤ pos t.period) (a +ℤ k *ℤ pos t.period)
  moved_unbeaten k d a u = record {
    travels = shift_travels t k s v d a u.travels;
    unbeaten = λ d' a' h b. u.unbeaten (d' +ℤ neg_ℤ k *ℤ pos t.period) (a' +ℤ neg_ℤ k *ℤ pos t.period) (shift_travels t (neg_ℤ k) s v d' a' h) (record {
      no_earlier = omega (arith, ints, b.no_earlier, opposite k t.period);
      no_later = omega (arith, ints, b.no_later, opposite k t.period);
      differs = λ z. b.differs (omega (arith, ints, z.0, opposite k t.period), omega (arith, ints, z.1, opposite k t.period));
    });
  }

  module _ (done : List Entry) (fin : Done (ways t s) done) where
    -- how long a settled label travels
    abbrev pub length_of : Entry → ℕ
    length_of e = e.minute - leaving e

    pub leaves-first : (e : Entry) → Mem e done → e.place ≡ v → leaving e ≤ e.minute
    leaves-first e m q = not_before t l s e.rank ((labels t l s e.rank v e.minute).1 (settled_leads t l s v station done fin e m q).label).reached

    pub low_at : (e : Entry) → Mem e done → e.place ≡ v → leaving e < t.period
    low_at e m q = low t l (rank_connection t s e.rank) ((ordered t s).sound e.rank (settled_leads t l s v station done fin e m q).label.reached.ranked).0

    -- its first departure at or after minute n, and the arrival then
    abbrev pub next : ℕ → Entry → ℕ
    next n e = after (leaving e) t.period n

    abbrev pub covers : ℕ → ℕ → Entry → Bool
    covers n m e = eqb e.place v && leb (next n e + length_of e) m

    pub at_zero : (x : ℤ) (n : ℕ) → pos n ≤ℤ x → (m : ℕ) × (x ≡ pos m) × (n ≤ m)
    at_zero (pos m) n h = (m, refl, omega (arith, ints))
    at_zero (negsuc m) n h = absurd (omega (arith, ints))

    -- what covers a pair from n on to m passes the test
    pub passes : (n m : ℕ) (x y : ℤ) → pos n ≤ℤ x → y ≤ℤ pos m → (f : Found t l s v station done fin x y) → covers n m f.by ≡ true
    passes n m x y hx hy f =
        let e = f.by in
        let lo = leaves-first e f.settled f.place in
        let lw = low_at e f.settled f.place in
        let z = at_zero (moved t (leaving e) f.periods) n (omega (arith, ints, f.departs)) in
        let c : z.0 % t.period ≡ leaving e = leaves (leaving e) t.period z.0 lw f.periods (sym z.1) in
        let first : next n e ≤ z.0 = after_least (leaving e) t.period lw n z.0 c z.2 in
        and_from _ _ (eq-eqb _ _ f.place) (le-leb _ _ (omega (arith, ints, z.1, f.arrives)))

    -- the pair of a settled label at its first departure from n on
    pub travels_at : (n : ℕ) (e : Entry) → Mem e done → e.place ≡ v → Travels t s v (pos (next n e)) (pos (next n e + length_of e))
    travels_at n e m q = by_case (after_is (leaving e) t.period (low_at e m q) n)
      where
        so : (j : ℕ) → next n e ≡ leaving e + t.period * j → Travels t s v (pos (next n e)) (pos (next n e + length_of e))
        so j h =
            let lo = leaves-first e m q in
            let d : pos (leaving e) +ℤ pos j *ℤ pos t.period ≡ pos (next n e) = ap pos (omega arith) in
            let a : pos e.minute +ℤ pos j *ℤ pos t.period ≡ pos (next n e + length_of e) = ap pos (omega arith) in
            rw (d, a) at (shift_travels t (pos j) s v (pos (leaving e)) (pos e.minute) (reached_pair t l s v station e.rank e.minute (settled_leads t l s v station done fin e m q).label.reached))

        by_case : ((n % t.period ≤ leaving e) × (next n e ≡ leaving e + t.period * (n / t.period))) ⊎ ((leaving e < n % t.period) × (next n e ≡ leaving e + t.period * (n / t.period + 1))) → Travels t s v (pos (next n e)) (pos (next n e + length_of e))
        by_case (inl h) = so (n / t.period) h.1
        by_case (inr h) = so (n / t.period + 1) h.1

    abbrev Cover : ℕ → ℕ → Type 0
    Cover n m = (e : Entry) × Mem e done × (e.place ≡ v) × Unbeaten t s v (pos (next n e)) (pos (next n e + length_of e)) × (n ≤ next n e) × (next n e + length_of e ≤ m)

    cover : (n m : ℕ) → Travels t s v (pos n) (pos m) → Cover n m
    cover n m h = by_case (least (covers n m) length_of done)
      where
        f : Found t l s v station done fin (pos n) (pos m)
        f = find t l s v station done fin (pos n) (pos m) h

        by_case : Least (covers n m) length_of done ⊎ ((g : Entry) → Mem g done → covers n m g ≡ true → ⊥) → Cover n m
        by_case (inr none) = absurd (none f.by f.settled (passes n m (pos n) (pos m) (omega (arith, ints)) (omega (arith, ints)) f))
        by_case (inl b) = (b.e, b.in_it, place, record { travels = travels_at n b.e b.in_it place; unbeaten = none }, omega arith, fits)
          where
            place : b.e.place ≡ v
            place = eqb-true _ _ (and_parts (eqb b.e.place v) _ b.passes).0

            fits : next n b.e + length_of b.e ≤ m
            fits = leb-true _ _ (and_parts (eqb b.e.place v) _ b.passes).1

            none : (d' a' : ℤ) → Travels t s v d' a' → Beats d' a' (pos (next n b.e)) (pos (next n b.e + length_of b.e)) → ⊥
            none d' a' h' w =
                let g = find t l s v station done fin d' a' h' in
                let lo = leaves-first g.by g.settled g.place in
                let c = b.least g.by g.settled (passes n m d' a' (omega (arith, ints, w.no_earlier)) (omega (arith, ints, w.no_later, fits)) g) in
                w.differs (omega (arith, ints, g.departs, g.arrives, w.no_earlier, w.no_later), omega (arith, ints, g.departs, g.arrives, w.no_earlier, w.no_later))

  -- the number of periods by which a moment is moved to 0 or later
  abbrev lift : ℤ → ℕ
  lift (pos n) = 0
  lift (negsuc n) = n + 1

  lifted : (x : ℤ) → (n : ℕ) × (x +ℤ pos (lift x) *ℤ pos t.period ≡ pos n)
  lifted (pos n) = (n, ap pos (omega arith))
  lifted (negsuc n) = ((n + 1) * t.period - (n + 1), omega (arith, ints, times (n + 1) 1 t.period l.period_low))

  -- the settled label by which a pair is covered, and how far it is moved
  pub record Covered (x y : ℤ) : Type 0 where
    pub departs : ℤ
    pub arrives : ℤ
    pub from : ℕ
    pub periods : ℤ
    pub early : from < t.period
    pub is : departs ≡ moved t from periods
    pub unbeaten : Unbeaten t s v departs arrives
    pub no_earlier : x ≤ℤ departs
    pub no_later : arrives ≤ℤ y

  pub cover_all : (x y : ℤ) → Travels t s v x y → Covered x y
  cover_all x y h = on (cover q.0 q.1 n m.0 (rw (nx.1, m.1) at h'))
    where
      q : (l : List Entry) × Done (ways t s) l
      q = finished t l s

      k : ℤ
      k = pos (lift x)

      nx : (n : ℕ) × (x +ℤ pos (lift x) *ℤ pos t.period ≡ pos n)
      nx = lifted x

      n : ℕ
      n = nx.0

      h' : Travels t s v (x +ℤ pos (lift x) *ℤ pos t.period) (y +ℤ pos (lift x) *ℤ pos t.period)
      h' = shift_travels t (pos (lift x)) s v x y h

      f : Found t l s v station q.0 q.1 (x +ℤ pos (lift x) *ℤ pos t.period) (y +ℤ pos (lift x) *ℤ pos t.period)
      f = find t l s v station q.0 q.1 _ _ h'

      m : (m : ℕ) × (y +ℤ pos (lift x) *ℤ pos t.period ≡ pos m) × (nx.0 ≤ m)
      m = at_zero q.0 q.1 (y +ℤ pos (lift x) *ℤ pos t.period) nx.0 (omega (arith, ints, nx.1, f.departs, f.arrives, leaves-first q.0 q.1 f.by f.settled f.place))

      on : Cover q.0 q.1 nx.0 m.0 → Covered x y
      on (e, in_it, place, u, lo, hi) = by_case (after_is (leaving e) t.period (low_at q.0 q.1 e in_it place) nx.0)
        where
          so : (j : ℕ) → next q.0 q.1 nx.0 e ≡ leaving e + t.period * j → Covered x y
          so j w = record {
            departs = pos (next q.0 q.1 nx.0 e) +ℤ neg_ℤ (pos (lift x)) *ℤ pos t.period;
            arrives = pos (next q.0 q.1 nx.0 e + length_of q.0 q.1 e) +ℤ neg_ℤ (pos (lift x)) *ℤ pos t.period;
            from = leaving e;
            periods = pos j +ℤ neg_ℤ (pos (lift x));
            early = low_at q.0 q.1 e in_it place;
            is = omega (arith, ints, w, distribute_by (pos j) (neg_ℤ (pos (lift x))));
            unbeaten = moved_unbeaten (neg_ℤ (pos (lift x))) _ _ u;
            no_earlier = omega (arith, ints, nx.1, lo, opposite (pos (lift x)) t.period);
            no_later = omega (arith, ints, m.1, hi, opposite (pos (lift x)) t.period);
          }
            where
              distribute_by : (a b : ℤ) → (a +ℤ b) *ℤ pos t.period ≡ a *ℤ pos t.period +ℤ b *ℤ pos t.period
              distribute_by a b = distribute a b t.period

          by_case : ((nx.0 % t.period ≤ leaving e) × (next q.0 q.1 nx.0 e ≡ leaving e + t.period * (nx.0 / t.period))) ⊎ ((leaving e < nx.0 % t.period) × (next q.0 q.1 nx.0 e ≡ leaving e + t.period * (nx.0 / t.period + 1))) → Covered x y
          by_case (inl w) = so (nx.0 / t.period) w.1
          by_case (inr w) = so (nx.0 / t.period + 1) w.1

pub unbeaten_cover : UnbeatenCover
unbeaten_cover t l s v k d a h = let c = cover_all t l s v k d a h in (c.departs, c.arrives, c.unbeaten, c.no_earlier, c.no_later)

pub unbeaten_always : UnbeatenAlways
unbeaten_always t l s v k d a h j =
    let c = cover_all t l s v k d a h in
    let by = j +ℤ neg_ℤ c.periods in
    let e : c.departs +ℤ by *ℤ pos t.period ≡ moved t c.from j = omega (arith, ints, c.is, distribute j (neg_ℤ c.periods) t.period, opposite c.periods t.period) in
    (c.from, c.arrives +ℤ by *ℤ pos t.period, c.early, subst (λ (x : ℤ). Unbeaten t s v x (c.arrives +ℤ by *ℤ pos t.period)) e (moved_unbeaten t l s v k by c.departs c.arrives c.unbeaten))

pub first_unbeaten : FirstUnbeaten
first_unbeaten t l s v k n d a u late first d' a' h hn =
    let c = cover_all t l s v k d' a' h in
    let sooner = first c.departs c.arrives c.unbeaten (omega (arith, ints, c.no_earlier)) in
    by_case c sooner (or_later a c.arrives)
  where
    or_later : (x y : ℤ) → (x ≤ℤ y) ⊎ (y <ℤ x)
    or_later (pos x) (pos y) = elim (cases_lt y x) [ inl lt ↦ inr (omega (arith, ints)) | inr ge ↦ inl (omega (arith, ints)) ]
    or_later (pos x) (negsuc y) = inr (omega (arith, ints))
    or_later (negsuc x) (pos y) = inl (omega (arith, ints))
    or_later (negsuc x) (negsuc y) = elim (cases_lt x y) [ inl lt ↦ inr (omega (arith, ints)) | inr ge ↦ inl (omega (arith, ints)) ]

    by_case : (c : Covered t l s v k d' a') → d ≤ℤ c.departs → (a ≤ℤ c.arrives) ⊎ (c.arrives <ℤ a) → a ≤ℤ a'
    by_case c sooner (inl w) = omega (arith, ints, c.no_later)
    by_case c sooner (inr w) = absurd (u.unbeaten c.departs c.arrives c.unbeaten.travels (record { no_earlier = sooner; no_later = omega (arith, ints); differs = λ z. omega (arith, ints, z.1) }))
