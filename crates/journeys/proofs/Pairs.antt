-- The unbeaten pairs are the leading pairs that none of them beats.
use Rattle.std.proofs.Common.{◌≡◌, ℕ, ◌+◌, ◌*◌, ◌<◌, ◌≤◌, true, ◌&&◌, ◌||◌, eqb, ltb, ◌⊎◌, List, [], ◌∷◌, map, ℤ, pos, negsuc, ◌+ℤ◌, ◌*ℤ◌, neg_ℤ, ◌≤ℤ◌, ◌<ℤ◌, sym, refl, ap, ◌∙◌, subst, inl, inr, arith}
use borrow.Author.Differences.{ints, sum_is_lem, neg_is}
use Rattle.std.proofs.lemmas.Bool.{cases_eq, and_from, eq-eqb}
use Rattle.std.proofs.lemmas.Bool.Decides.{nat_tests}
use Rattle.timetable.specs.Table.{Table, at, stations, Lawful}
use Rattle.timetable.specs.Itinerary.{Ride, arrival, Departs, Stays, Changes, GoesOn, Itinerary, last}
use Rattle.timetable.specs.Pairs.{Travels, Beats, Unbeaten}
use Rattle.timetable.specs.Labels.{ranks, rank_connection, connection_place, Reaches, Leads}
use Rattle.journeys.specs.Search.{Entry, Mem, Path, Done}
use Rattle.journeys.specs.Paths.{Reach, opening_ride}
use Rattle.journeys.specs.Theorems.{ways}
use Rattle.journeys.specs.Chosen.{moved, LeadingPair, Chosen, PairsChosen, PairsCover}
use Rattle.journeys.proofs.Walk.{bridge}
use Rattle.journeys.proofs.Firsts.{ordered, departing}
use Rattle.journeys.proofs.Ways.{forward, early_at}
use Rattle.journeys.proofs.Finished.{Met, met}
use Rattle.journeys.proofs.Steps.{ends}
use Rattle.journeys.proofs.Exactly.{running, exactly}
use Rattle.journeys.proofs.Whole.{finishes}

pub distribute : (a b : ℤ) (p : ℕ) → (a +ℤ b) *ℤ pos p ≡ a *ℤ pos p +ℤ b *ℤ pos p
distribute a b p = omega (arith, ints, ap (λ (y : ℕ). y * p) (sum_is_lem a b))

pub opposite : (a : ℤ) (p : ℕ) → neg_ℤ a *ℤ pos p ≡ neg_ℤ (a *ℤ pos p)
opposite a p = omega (arith, ints, ap (λ (y : ℕ). y * p) (neg_is a).0, ap (λ (y : ℕ). y * p) (neg_is a).1)

pub same_or_less : (x y : ℤ) → x ≤ℤ y → (x ≡ y) ⊎ (x <ℤ y)
same_or_less (pos a) (pos b) h = elim (cases_eq a b) [ inl e ↦ inl (ap pos e) | inr n ↦ inr (omega (arith, ints)) ]
same_or_less (pos a) (negsuc b) h = absurd (omega (arith, ints))
same_or_less (negsuc a) (pos b) h = inr (omega (arith, ints))
same_or_less (negsuc a) (negsuc b) h = elim (cases_eq a b) [ inl e ↦ inl (ap negsuc e) | inr n ↦ inr (omega (arith, ints)) ]

-- what some search has settled
pub finished : (t : Table) → Lawful t → (s : ℕ) → (l : List Entry) × Done (ways t s) l
finished t l s = let q = finishes t l s in (q.0, ends (ways t s) (forward t l s) q.0 (running t l s q.1))

-- ---- itineraries moved by k periods

module _ (t : Table) (k : ℤ) where
  abbrev shift : Ride → Ride
  shift r = record { connection = r.connection; moment = r.moment +ℤ k *ℤ pos t.period }

  shift-departs : (r : Ride) → Departs t r → Departs t (shift r)
  shift-departs r d = record { known = d.known; runs = d.runs; periodic = (d.periodic.0 +ℤ k, omega (arith, ints, d.periodic.1, distribute d.periodic.0 k t.period)) }

  shift_link : (r s : Ride) → Stays t r s ⊎ Changes t r s → Stays t (shift r) (shift s) ⊎ Changes t (shift r) (shift s)
  shift_link r s (inl h) = inl (record { aboard = h.aboard; stands = omega (arith, ints, h.stands) })
  shift_link r s (inr h) = inr (record { meets = h.meets; in_time = omega (arith, ints, h.in_time) })

  shift_on : (r : Ride) (rs : List Ride) → GoesOn t r rs → GoesOn t (shift r) (map shift rs)
  shift_on r [] i = tt
  shift_on r (s ∷ rs) i = (shift-departs s i.0, shift_link r s i.1, shift_on s rs i.2)

  shift-last : (r : Ride) (rs : List Ride) → last (shift r) (map shift rs) ≡ shift (last r rs)
  shift-last r [] = refl
  shift-last r (s ∷ rs) = shift-last s rs

  pub shift_travels : (s v : ℕ) (d a : ℤ) → Travels t s v d a → Travels t s v (d +ℤ k *ℤ pos t.period) (a +ℤ k *ℤ pos t.period)
  shift_travels s v d a h = record {
    first = shift h.first;
    rest = map shift h.rest;
    is_itinerary = (shift-departs h.first h.is_itinerary.0, shift_on h.first h.rest h.is_itinerary.1);
    starts = h.starts;
    ends = rw (shift-last h.first h.rest) h.ends;
    departs = ap (λ (x : ℤ). x +ℤ k *ℤ pos t.period) h.departs;
    arrives = rw (shift-last h.first h.rest) (omega (arith, ints, h.arrives));
  }

module _ (t : Table) (l : Lawful t) (s v : ℕ) (station : v < stations t) where
  abbrev leaving : ℕ → ℕ
  leaving i = (at t (rank_connection t s i)).departure

  -- a reached label of v is a pair
  pub reached_pair : (i n : ℕ) → Reaches t s i v n → Travels t s v (pos (leaving i)) (pos n)
  reached_pair i n a = by_case a.comes
    where
      by_case : ((v ≡ (at t (last a.first a.rest).connection).end.0) × (arrival t (last a.first a.rest) ≡ pos n)) ⊎ ((v ≡ connection_place t (last a.first a.rest).connection) × ((last a.first a.rest).moment ≡ pos n)) → Travels t s v (pos (leaving i)) (pos n)
      by_case (inl h) = record {
        first = a.first;
        rest = a.rest;
        is_itinerary = a.is_itinerary;
        starts = ap (λ (c : ℕ). (at t c).start.0) a.begins ∙ (departing t s i a.ranked).1;
        ends = sym h.0;
        departs = a.in_period ∙ ap (λ (c : ℕ). pos (at t c).departure) a.begins;
        arrives = h.1;
      }
      by_case (inr h) = absurd (omega (arith, h.0))

  pub leading_travels : (d a : ℤ) → LeadingPair t s v d a → Travels t s v d a
  leading_travels d a h = rw (h.departs, h.arrives) (shift_travels t h.periods s v _ _ (reached_pair h.rank h.minute h.leads.label.reached))

  -- a higher rank departs no earlier
  later_rank : (i j : ℕ) → i ≤ j → j < ranks t s → leaving i ≤ leaving j
  later_rank i j h k = elim (cases_eq i j) [ inl e ↦ omega (arith, ap leaving e) | inr n ↦ by_order (leaving i) (leaving j) (rank_connection t s i) (rank_connection t s j) ((ordered t s).ordered i j (omega arith) k) ]
    where
      by_order : (a b c d : ℕ) → (ltb a b || (eqb a b && ltb c d)) ≡ true → a ≤ b
      by_order a b c d e = grind (arith, nat_tests)

  module _ (done : List Entry) (fin : Done (ways t s) done) where
    -- a settled label of v that, moved by whole periods, departs no earlier than x and arrives no later than y
    pub record Found (x y : ℤ) : Type 0 where
      pub by : Entry
      pub settled : Mem by done
      pub place : by.place ≡ v
      pub periods : ℤ
      pub departs : x ≤ℤ moved t (leaving by.rank) periods
      pub arrives : moved t by.minute periods ≤ℤ y

    pub settled_leads : (e : Entry) → Mem e done → e.place ≡ v → Leads t s e.rank v e.minute
    settled_leads e m q = subst (λ (p : ℕ). Leads t s e.rank p e.minute) q ((exactly t l s done fin e).0 m).0

    -- for a pair whose first ride, moved by −k periods, departs in the present period
    found_now : (x y k : ℤ) (h : Travels t s v (x +ℤ neg_ℤ k *ℤ pos t.period) (y +ℤ neg_ℤ k *ℤ pos t.period)) → h.first.moment ≡ pos (at t h.first.connection).departure → Found x y
    found_now x y k h now = record {
      by = b.by;
      settled = b.settled;
      place = b.same;
      periods = k;
      departs = omega (arith, ints, h.departs, now, ap (λ (c : ℕ). (at t c).departure) i.2, later_rank i.0 b.by.rank b.higher (settled_leads b.by b.settled b.same).label.reached.ranked, opposite k t.period);
      arrives = omega (arith, ints, z.2, b.sooner, h.arrives, arrives_at, opposite k t.period);
    }
      where
        d₀ : Departs t h.first
        d₀ = h.is_itinerary.0

        i : (i : ℕ) × (i < ranks t s) × (rank_connection t s i ≡ h.first.connection)
        i = (ordered t s).whole h.first.connection d₀.known (and_from _ _ d₀.runs (eq-eqb _ _ h.starts))

        opens : h.first ≡ opening_ride t (rank_connection t s i.0)
        opens j = record { connection = sym i.2 j; moment = (now ∙ ap (λ (c : ℕ). pos (at t c).departure) (sym i.2)) j }

        w : (m : ℕ) × ((last h.first h.rest).moment ≡ pos m) × Reach t (rank_connection t s i.0) (at t (rank_connection t s i.0)).departure (last h.first h.rest).connection m
        w = (bridge t l (rank_connection t s i.0) (at t (rank_connection t s i.0)).departure (last h.first h.rest)).0 (record { rest = h.rest; itinerary = subst (λ (r : Ride). Itinerary t (r ∷ h.rest)) opens h.is_itinerary; ends = ap (λ (r : Ride). last r h.rest) (sym opens) })

        n : ℕ
        n = w.0 + (at t (last h.first h.rest).connection).ride

        arrives_at : arrival t (last h.first h.rest) ≡ pos n
        arrives_at = ap (λ (m : ℤ). m +ℤ pos (at t (last h.first h.rest).connection).ride) w.1

        a : Reaches t s i.0 v n
        a = record { first = h.first; rest = h.rest; is_itinerary = h.is_itinerary; ranked = i.1; begins = sym i.2; in_period = now; comes = inl (sym h.ends, arrives_at) }

        z : (m : ℕ) × Path (ways t s) i.0 v m × (m ≤ n)
        z = early_at t l s i.0 v n a

        b : Met (ways t s) (forward t l s) done fin i.0 v z.0
        b = met (ways t s) (forward t l s) done fin i.0 v z.0 z.1

    back : (z : ℤ) (n p : ℕ) (k : ℤ) → z ≡ pos n +ℤ k *ℤ pos p → z +ℤ neg_ℤ k *ℤ pos p ≡ pos n
    back z n p k e = omega (arith, ints, opposite k p)

    pub find : (x y : ℤ) → Travels t s v x y → Found x y
    unfolding shift_travels
    find x y h =
        let r = h.is_itinerary.0 in
        let k = r.periodic.0 in
        found_now x y k (shift_travels t (neg_ℤ k) s v x y h) (back h.first.moment (at t h.first.connection).departure t.period k r.periodic.1)

  abbrev Cover : ℤ → ℤ → Type 0
  Cover x y = (d : ℤ) × (a : ℤ) × LeadingPair t s v d a × (x ≤ℤ d) × (a ≤ℤ y)

  pub covered : (x y : ℤ) → Travels t s v x y → Cover x y
  covered x y h =
      let q = finished t l s in
      let f = find q.0 q.1 x y h in
      (moved t (leaving f.by.rank) f.periods, moved t f.by.minute f.periods, record { rank = f.by.rank; minute = f.by.minute; periods = f.periods; leads = settled_leads q.0 q.1 f.by f.settled f.place; departs = refl; arrives = refl }, f.departs, f.arrives)

  chosen : (d a : ℤ) → Unbeaten t s v d a → Chosen t s v d a
  chosen d a u = record { pair = pair' (covered d a u.travels); unbeaten = λ d' a' h b. u.unbeaten d' a' (leading_travels d' a' h) b }
    where
      pair' : Cover d a → LeadingPair t s v d a
      pair' (x, y, p, h, k) = by_case (same_or_less d x h) (same_or_less y a k)
        where
          by_case : (d ≡ x) ⊎ (d <ℤ x) → (y ≡ a) ⊎ (y <ℤ a) → LeadingPair t s v d a
          by_case (inl e) (inl f) = rw (e, ← f) p
          by_case (inr e) q = absurd (u.unbeaten x y (leading_travels x y p) (record { no_earlier = h; no_later = k; differs = λ z. omega (arith, ints, z.0) }))
          by_case (inl e) (inr f) = absurd (u.unbeaten x y (leading_travels x y p) (record { no_earlier = h; no_later = k; differs = λ z. omega (arith, ints, z.1) }))

  unbeaten : (d a : ℤ) → Chosen t s v d a → Unbeaten t s v d a
  unbeaten d a c = record { travels = leading_travels d a c.pair; unbeaten = λ d' a' h b. none d' a' b (covered d' a' h) }
    where
      none : (d' a' : ℤ) → Beats d' a' d a → Cover d' a' → ⊥
      none d' a' b (x, y, p, h, k) = c.unbeaten x y p (record {
        no_earlier = omega (arith, ints, b.no_earlier);
        no_later = omega (arith, ints, b.no_later);
        differs = λ z. b.differs (omega (arith, ints, z.0, z.1, b.no_earlier, b.no_later), omega (arith, ints, z.0, z.1, b.no_earlier, b.no_later));
      })

pub pairs_chosen : PairsChosen
pairs_chosen t l s v k d a = (chosen t l s v k d a, unbeaten t l s v k d a)

pub pairs_cover : PairsCover
pairs_cover t l s v k d a h = covered t l s v k d a h
