-- The origins of a settled label tell an itinerary.
use Rattle.std.proofs.Common.{◌≡◌, ℕ, zero, suc, ◌+◌, ◌-◌, ◌*◌, ◌%◌, ◌<◌, ◌≤◌, ltb, leb, ◌⊎◌, List, [], ◌∷◌, ◌++◌, pos, ◌+ℤ◌, sym, refl, ap, ◌∙◌, subst, inl, inr, mod-eq_of_lt, arith}
use native.Mathlib.Decide.{dec_lt}
use borrow.Author.Differences.{ints}
use Rattle.std.proofs.lemmas.Bool.{cond-true, cond-false, lt-ltb, le-ltb, le-leb, lt-leb}
use Rattle.timetable.specs.Table.{Table, at, stations, transfer, stand, Lawful}
use Rattle.timetable.specs.Itinerary.{Ride, arrival, Departs, Stays, Changes, GoesOn, last}
use Rattle.timetable.specs.Legs.{leg_of, boarded, Legs, ends, stays, changes}
use Rattle.timetable.specs.Labels.{rank_connection, places, Gives, by_ride, by_stay, by_change, IsFirstRide, IsLabel, IsOrigin}
use Rattle.timetable.specs.declared.leg.Leg.{Leg}
use Rattle.journeys.specs.Search.{Entry, Mem, Done, Ground}
use Rattle.journeys.specs.Paths.{Runs}
use Rattle.journeys.specs.Theorems.{ways}
use Rattle.journeys.specs.Theorems.{SettledExactly}
use Rattle.journeys.specs.Trace.{Chain, from, back, rides_of, Tells, depth, extended, legs_of, OriginsTell}
use Rattle.journeys.proofs.Clock.{times, departs_pos, pos_departs, runs_known}
use Rattle.journeys.proofs.Walk.{low, snoc, snoc_last, stood}
use Rattle.journeys.proofs.Firsts.{departing}
use Rattle.journeys.proofs.Ways.{forward, next-first}
use Rattle.journeys.proofs.Steps.{ends as finished_so}
use Rattle.journeys.proofs.Exactly.{running, exactly}

module _ (t : Table) (l : Lawful t) (s : ℕ) where
  abbrev ride : ℕ → ℕ → Ride
  ride c n = record { connection = c; moment = pos n }

  -- an entry of a connection adds a ride, one of a station does not
  rides_connection : (e : Entry) (es : List Entry) (c : ℕ) → e.place ≡ stations t + c → rides_of t (e ∷ es) ≡ rides_of t es ++ (ride c e.minute ∷ [])
  rides_connection e es c h =
      cond-false (ltb e.place (stations t)) (rides_of t es) (rides_of t es ++ (ride (e.place - stations t) e.minute ∷ [])) (le-ltb e.place (stations t) (omega arith))
      ∙ ap (λ (x : ℕ). rides_of t es ++ (ride x e.minute ∷ [])) (omega arith)

  rides_station : (e : Entry) (es : List Entry) → e.place < stations t → rides_of t (e ∷ es) ≡ rides_of t es
  rides_station e es h = cond-true (ltb e.place (stations t)) (rides_of t es) (rides_of t es ++ (ride (e.place - stations t) e.minute ∷ [])) (lt-ltb e.place (stations t) h)

  last-departs : (r : Ride) (rs : List Ride) → Departs t r → GoesOn t r rs → Departs t (last r rs)
  last-departs r [] d i = d
  last-departs r (q ∷ rs) d i = last-departs q rs i.0 i.2

  module _ (g : Entry) (gs : List Ride) (h : Tells t s g gs) where
    abbrev z : Ride
    z = last h.first h.rest

    run : Departs t z
    run = last-departs h.first h.rest h.is_itinerary.0 h.is_itinerary.1

    at_connection : (c : ℕ) → g.place ≡ stations t + c → (z.connection ≡ c) × (z.moment ≡ pos g.minute)
    at_connection c p = elim h.comes [ inl k ↦ absurd (omega (arith, k.0, (l.each z.connection run.known).end_known)) | inr k ↦ (omega (arith, k.0), k.1) ]

    at_station : g.place < stations t → (g.place ≡ (at t z.connection).end.0) × (arrival t z ≡ pos g.minute)
    at_station p = elim h.comes [ inl k ↦ k | inr k ↦ absurd (omega (arith, k.0)) ]

    -- one more ride
    add : (e : Entry) (es : List Entry) (c : ℕ) → gs ≡ rides_of t es → g.rank ≡ e.rank → e.place ≡ stations t + c → Departs t (ride c e.minute) → Stays t z (ride c e.minute) ⊎ Changes t z (ride c e.minute) → Tells t s e (rides_of t (e ∷ es))
    add e es c q r p d f = record {
      first = h.first;
      rest = h.rest ++ (x ∷ []);
      are = rides_connection e es c p ∙ ap (λ (y : List Ride). y ++ (x ∷ [])) (sym q ∙ h.are);
      is_itinerary = (h.is_itinerary.0, snoc t l 0 0 h.first h.rest x h.is_itinerary.1 d f);
      begins = rw r at h.begins;
      in_period = rw r at h.in_period;
      comes = inr (rw (snoc_last t l 0 0 h.first h.rest x) p, rw (snoc_last t l 0 0 h.first h.rest x) refl);
    }
      where
        x : Ride
        x = ride c e.minute

  tells_first : (e : Entry) → IsFirstRide t s e.rank e.place e.minute → Tells t s e (rides_of t (e ∷ []))
  tells_first e f = record {
    first = ride (rank_connection t s e.rank) e.minute;
    rest = [];
    are = rides_connection e [] (rank_connection t s e.rank) f.place;
    is_itinerary = (pos_departs t (rank_connection t s e.rank) e.minute runs (ap (λ (y : ℕ). y % t.period) f.departure ∙ mod-eq_of_lt (low t l (rank_connection t s e.rank) (runs_known t _ runs))), tt);
    begins = refl;
    in_period = ap pos f.departure;
    comes = inr (f.place, refl);
  }
    where
      runs : Runs t (rank_connection t s e.rank)
      runs = (departing t s e.rank f.ranked).0

  -- a ride that departs at minute m
  as_ride : (P : Ride → Type 0) (z : Ride) (c m : ℕ) → z.connection ≡ c → z.moment ≡ pos m → P (ride c m) → P z
  as_ride P z c m p q h = subst P (λ i. record { connection = sym p i; moment = sym q i }) h

  mod_of : (z : Ride) (c m : ℕ) → Departs t z → z.connection ≡ c → z.moment ≡ pos m → m % t.period ≡ (at t c).departure
  mod_of z c m d p q = departs_pos t l z m d q ∙ ap (λ (x : ℕ). (at t x).departure) p

  tells_on : (e g : Entry) (es : List Entry) → g.rank ≡ e.rank → Gives t g.place g.minute e.place e.minute → Tells t s g (rides_of t es) → Tells t s e (rides_of t (e ∷ es))
  tells_on e g es r (by_ride c k a b n) h =
      let y = last h.first h.rest in
      let w = at_connection g (rides_of t es) h c a in
      record {
        first = h.first;
        rest = h.rest;
        are = rides_station e es (omega (arith, (l.each c k).end_known)) ∙ h.are;
        is_itinerary = h.is_itinerary;
        begins = rw r at h.begins;
        in_period = rw r at h.in_period;
        comes = inl (as_ride (λ x. e.place ≡ (at t x.connection).end.0) y c g.minute w.0 w.1 b, as_ride (λ x. arrival t x ≡ pos e.minute) y c g.minute w.0 w.1 (ap pos (sym n)));
      }
  tells_on e g es r (by_stay c d f runs a b n) h =
      let y = last h.first h.rest in
      let w = at_connection g (rides_of t es) h c a in
      add g (rides_of t es) h e es d refl r b
      (pos_departs t d e.minute runs (ap (λ (x : ℕ). x % t.period) n ∙ stood t l c d g.minute f.there (mod_of y c g.minute (run g (rides_of t es) h) w.0 w.1)))
      (inl (as_ride (λ x. Stays t x (ride d e.minute)) y c g.minute w.0 w.1 (record { aboard = f; stands = ap pos n })))
  tells_on e g es r (by_change c k runs a b n) h =
      let w = at_station g (rides_of t es) h (omega (arith, (l.each c k).start_known)) in
      let f = next-first t l c k (g.minute + transfer t g.place) in
      add g (rides_of t es) h e es c refl r b
      (pos_departs t c e.minute runs (ap (λ (x : ℕ). x % t.period) n ∙ f.0))
      (inr (record { meets = sym a ∙ w.0; in_time = rw (← w.0, w.1) (omega (arith, ints, n, f.1)) }))

  -- ---- legs

  some_legs : {r : Ride} {rs : List Ride} → Legs t r rs [] → ⊥
  some_legs h = elim h [ ]

  -- one more ride at the end, aboard the same train
  legs_stay : {r : Ride} {rs : List Ride} {gs : List Leg} (d m : ℕ) → Legs t r rs gs → Stays t (last r rs) (ride d m) → Legs t r (rs ++ (ride d m ∷ [])) (extended d (m + (at t d).ride) gs)
  legs_stay d m (ends c n) st = stays c n st (ends d m)
  legs_stay d m (stays c n {s = y} {rest} {g} {gs} st h) e = on gs (legs_stay d m h e)
    where
      on : (gs : List Leg) → Legs t y (rest ++ (ride d m ∷ [])) (extended d (m + (at t d).ride) (g ∷ gs)) → Legs t (ride c n) (y ∷ (rest ++ (ride d m ∷ []))) (extended d (m + (at t d).ride) (boarded t c n g ∷ gs))
      on [] k = stays c n st k
      on (g' ∷ gs) k = stays c n st k
  legs_stay d m (changes c n {s = y} {rest} {gs} st h) e = on gs h (legs_stay d m h e)
    where
      on : (gs : List Leg) → Legs t y rest gs → Legs t y (rest ++ (ride d m ∷ [])) (extended d (m + (at t d).ride) gs) → Legs t (ride c n) (y ∷ (rest ++ (ride d m ∷ []))) (extended d (m + (at t d).ride) (leg_of t c n ∷ gs))
      on [] h k = absurd (some_legs h)
      on (g ∷ gs) h k = changes c n st k

  -- or after a change
  legs_change : {r : Ride} {rs : List Ride} {gs : List Leg} (d m : ℕ) → Legs t r rs gs → (Stays t (last r rs) (ride d m) → ⊥) → Legs t r (rs ++ (ride d m ∷ [])) (gs ++ (leg_of t d m ∷ []))
  legs_change d m (ends c n) st = changes c n st (ends d m)
  legs_change d m (stays c n st h) e = stays c n st (legs_change d m h e)
  legs_change d m (changes c n st h) e = changes c n st (legs_change d m h e)

  legs_at_station : (e : Entry) (es : List Entry) → e.place < stations t → legs_of t (e ∷ es) ≡ legs_of t es
  legs_at_station e es h = cond-true (ltb e.place (stations t)) (legs_of t es) _ (lt-ltb e.place (stations t) h)

  legs_aboard : (e g : Entry) (es : List Entry) (c : ℕ) → e.place ≡ stations t + c → stations t ≤ g.place → legs_of t (e ∷ g ∷ es) ≡ extended c (e.minute + (at t c).ride) (legs_of t (g ∷ es))
  legs_aboard e g es c h k =
      cond-false (ltb e.place (stations t)) (legs_of t (g ∷ es)) _ (le-ltb e.place (stations t) (omega arith))
      ∙ cond-true (leb (stations t) g.place) _ _ (le-leb (stations t) g.place k)
      ∙ ap (λ (x : ℕ). extended x (e.minute + (at t x).ride) (legs_of t (g ∷ es))) (omega arith)

  legs_changed : (e g : Entry) (es : List Entry) (c : ℕ) → e.place ≡ stations t + c → g.place < stations t → legs_of t (e ∷ g ∷ es) ≡ legs_of t (g ∷ es) ++ (leg_of t c e.minute ∷ [])
  legs_changed e g es c h k =
      cond-false (ltb e.place (stations t)) (legs_of t (g ∷ es)) _ (le-ltb e.place (stations t) (omega arith))
      ∙ cond-false (leb (stations t) g.place) _ _ (lt-leb (stations t) g.place k)
      ∙ ap (λ (x : ℕ). legs_of t (g ∷ es) ++ (leg_of t x e.minute ∷ [])) (omega arith)

  legs_first : (e : Entry) (c : ℕ) → e.place ≡ stations t + c → legs_of t (e ∷ []) ≡ leg_of t c e.minute ∷ []
  legs_first e c h = cond-false (ltb e.place (stations t)) [] _ (le-ltb e.place (stations t) (omega arith)) ∙ ap (λ (x : ℕ). leg_of t x e.minute ∷ []) (omega arith)

  -- a change over a station is never a stay: the connection left would be a higher origin
  no_disguise : (done : List Entry) (x : SettledExactly t s done) (e g h : Entry) (c d : ℕ) → Mem e done → Mem h done → h.rank ≡ e.rank → h.place ≡ stations t + c → e.place ≡ stations t + d → e.origin ≡ g.place → g.place < stations t → Runs t d → Stays t (ride c h.minute) (ride d e.minute) → ⊥
  no_disguise done x e g h c d me mh r pc pd o k runs st = by_case ((x e).0 me).1
    where
      minute_of : pos e.minute ≡ pos h.minute +ℤ pos (at t c).ride +ℤ pos (stand t c d) → e.minute ≡ h.minute + (at t c).ride + stand t c d
      minute_of q = omega (arith, ints)

      by_case : IsOrigin t s e.rank e.place e.minute e.origin → ⊥
      by_case (inl f) = omega (arith, f.1, l.stations_high)
      by_case (inr f) =
          let lb : IsLabel t s e.rank h.place h.minute = subst (λ (i : ℕ). IsLabel t s i h.place h.minute) r ((x h).0 mh).0.label in
          omega (arith, f.highest h.place h.minute lb (by_stay c d st.aboard runs pc pd (minute_of st.stands)))

  module _ (done : List Entry) (x : SettledExactly t s done) where
    -- the settled entry of the last ride z, which arrives where g is
    record Left (g : Entry) (z : Ride) : Type 0 where
      h : Entry
      c : ℕ
      settled : Mem h done
      rank : h.rank ≡ g.rank
      place : h.place ≡ stations t + c
      is : z ≡ ride c h.minute

    -- what a chain tells, with the legs
    record Tale (e : Entry) (es : List Entry) : Type 0 where
      tale : Tells t s e (rides_of t es)
      legs : Legs t tale.first tale.rest (legs_of t es)
      left : e.place < stations t → Left e (last tale.first tale.rest)

    tale_first : (e : Entry) → IsFirstRide t s e.rank e.place e.minute → Tale e (e ∷ [])
    unfolding tells_first
    tale_first e f = record {
      tale = tells_first e f;
      legs = subst (Legs t (ride (rank_connection t s e.rank) e.minute) []) (sym (legs_first e (rank_connection t s e.rank) f.place)) (ends (rank_connection t s e.rank) e.minute);
      left = λ k. absurd (omega (arith, f.place));
    }

    tale_on : (e g : Entry) (es : List Entry) (r : g.rank ≡ e.rank) → Gives t g.place g.minute e.place e.minute → Mem e done → Mem g done → g.place ≡ e.origin → Tale g (g ∷ es) → Tale e (e ∷ g ∷ es)
    unfolding tells_on add
    tale_on e g es r (by_ride c k a b n) me mg o T =
        let w = at_connection g (rides_of t (g ∷ es)) T.tale c a in
        record {
          tale = tells_on e g (g ∷ es) r (by_ride c k a b n) T.tale;
          legs = subst (Legs t T.tale.first T.tale.rest) (sym (legs_at_station e (g ∷ es) (omega (arith, (l.each c k).end_known)))) T.legs;
          left = λ _. record { h = g; c = c; settled = mg; rank = r; place = a; is = λ i. record { connection = w.0 i; moment = w.1 i } };
        }
    tale_on e g es r (by_stay c d f runs a b n) me mg o T =
        let w = at_connection g (rides_of t (g ∷ es)) T.tale c a in
        record {
          tale = tells_on e g (g ∷ es) r (by_stay c d f runs a b n) T.tale;
          legs = subst (Legs t T.tale.first (T.tale.rest ++ (ride d e.minute ∷ []))) (sym (legs_aboard e g es d b (omega arith)))
              (legs_stay d e.minute T.legs (as_ride (λ y. Stays t y (ride d e.minute)) (last T.tale.first T.tale.rest) c g.minute w.0 w.1 (record { aboard = f; stands = ap pos n })));
          left = λ k. absurd (omega arith);
        }
    tale_on e g es r (by_change c k runs a b n) me mg o T =
        let low-g : g.place < stations t = omega (arith, (l.each c k).start_known) in
        let q = T.left low-g in
        record {
          tale = tells_on e g (g ∷ es) r (by_change c k runs a b n) T.tale;
          legs = subst (Legs t T.tale.first (T.tale.rest ++ (ride c e.minute ∷ []))) (sym (legs_changed e g es c b low-g))
              (legs_change c e.minute T.legs (λ st. no_disguise done x e g q.h q.c c me q.settled (q.rank ∙ r) q.place b (sym o) low-g runs (subst (λ y. Stays t y (ride c e.minute)) q.is st)));
          left = λ z. absurd (omega arith);
        }

    tale_of : (e : Entry) (es : List Entry) → Chain t s done e es → Tale e es
    tale_of e es (from _ m f o) = tale_first e f
    tale_of e es (back _ g gs m r p k h c) = with_head gs c (tale_of g gs c)
      where
        with_head : (gs : List Entry) → Chain t s done g gs → Tale g gs → Tale e (e ∷ gs)
        with_head gs (from _ m' f o) T = tale_on e g [] r h m m' p T
        with_head gs (back _ g' gy m' r' p' k' h' c') T = tale_on e g gy r h m m' p T

  -- the chain, by the depth that falls
  deeper : (a b N p q : ℕ) → a ≤ b → (a ≡ b → p < q) → p < N → a * N + p < b * N + q
  deeper a b N p q h k l = elim (dec_lt a b) [ yes i ↦ omega (arith, times N (a + 1) b (omega arith)) | no i ↦ (let e : a ≡ b = omega arith in rw e (omega (arith, k e))) ]

  gives_from : (q m p n : ℕ) → Gives t q m p n → q < places t
  gives_from q m p n (by_ride c r a b e) = omega arith
  gives_from q m p n (by_stay c d f r a b e) = omega (arith, f.next, f.there)
  gives_from q m p n (by_change c d r a b e) = omega (arith, (l.each c d).start_known)

  module _ (done : List Entry) (d : Done (ways t s) done) where
    chain : (n : ℕ) (e : Entry) → Mem e done → depth t e < n → (es : List Entry) × Chain t s done e es
    chain zero e m h = absurd (omega arith)
    chain (suc n) e m h = on (d.sound e m).grounds (chain n)
      where
        on : Ground (ways t s) done e → ((g : Entry) → Mem g done → depth t g < n → (es : List Entry) × Chain t s done g es) → (es : List Entry) × Chain t s done e es
        on (inl f) ih = (e ∷ [], from e m f.0 f.1)
        on (inr (g, k, r, p, y)) ih =
            let u = deeper g.minute e.minute (places t) g.place e.place ((forward t l s).onward _ _ _ _ y) ((forward t l s).upward _ _ _ _ y) (gives_from _ _ _ _ y) in
            let c = ih g k (omega arith) in
            (e ∷ c.0, back e g c.0 m r p u y c.1)

pub origins_tell : OriginsTell
origins_tell t l s done st e m =
    let d = finished_so (ways t s) (forward t l s) done (running t l s st) in
    let c = chain t l s done d (depth t e + 1) e m (omega arith) in
    let w = tale_of t l s done (exactly t l s done d) e c.0 c.1 in
    record { entries = c.0; chain = c.1; tells = w.tale; legs = w.legs }
