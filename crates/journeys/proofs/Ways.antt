-- The ways of a timetable lead forward, and their least minutes are the labels.
use Rattle.std.proofs.Common.{◌≡◌, ℕ, ◌+◌, ◌<◌, ◌≤◌, ◌⊎◌, ◌↔◌, ◌∷◌, pos, sym, refl, ap, ◌∙◌, subst, inl, inr, mod-eq_of_lt, arith}
use borrow.Author.Differences.{ints}
use Rattle.timetable.specs.Table.{Table, at, stations, connections, transfer, stand, next_departure, Lawful, LawfulConnection}
use Rattle.timetable.specs.Itinerary.{Ride, arrival, Itinerary, last}
use Rattle.timetable.specs.Labels.{ranks, rank_connection, connection_place, Reaches, IsLabel, Gives, by_ride, by_stay, by_change}
use Rattle.journeys.specs.Search.{Path, begin, go, Label, Forward}
use Rattle.journeys.specs.Paths.{opening_ride, Journey, Reach, first, stay, change}
use Rattle.journeys.specs.Theorems.{ways, NextFirst, GivesMonotone}
use Rattle.journeys.proofs.Clock.{after-departs, after_least, runs_known}
use Rattle.journeys.proofs.Walk.{bridge, low, reach_runs}
use Rattle.journeys.proofs.Firsts.{ordered, departing}

pub next-first : NextFirst
next-first t l c k x = (after-departs (at t c).departure t.period (low t l c k) x, omega arith, after_least (at t c).departure t.period (low t l c k) x)

next_monotone : (t : Table) → Lawful t → (c : ℕ) → c < connections t → (x y : ℕ) → x ≤ y → next_departure t c x ≤ next_departure t c y
next_monotone t l c k x y h =
    let a = next-first t l c k y in
    (next-first t l c k x).2 (next_departure t c y) a.0 (omega (arith, a.1))

pub monotone : GivesMonotone
monotone t l q m p n k (by_ride c r a b e) h = (k + (at t c).ride, by_ride c r a b refl, omega arith)
monotone t l q m p n k (by_stay c d f r a b e) h = (k + (at t c).ride + stand t c d, by_stay c d f r a b refl, omega arith)
monotone t l q m p n k (by_change c d r a b e) h = (next_departure t c (k + transfer t q), by_change c d r a b refl, rw e (next_monotone t l c d (k + transfer t q) (m + transfer t q) (omega arith)))

module _ (t : Table) (l : Lawful t) where
  pub onward : (q m p n : ℕ) → Gives t q m p n → m ≤ n
  onward q m p n (by_ride c r a b e) = omega arith
  onward q m p n (by_stay c d f r a b e) = omega arith
  onward q m p n (by_change c d r a b e) = omega arith

  upward : (q m p n : ℕ) → Gives t q m p n → m ≡ n → q < p
  upward q m p n (by_ride c r a b e) h = absurd (omega (arith, (l.each c r).ride_low))
  upward q m p n (by_stay c d f r a b e) h = omega (arith, f.next)
  upward q m p n (by_change c d r a b e) h = omega (arith, (l.each c d).start_known)

  module _ (s : ℕ) where
    pub forward : Forward (ways t s)
    forward = record { monotone = monotone t l; onward = onward; upward = upward }

    -- what a path of ways is: a path to a ride of the connection, or to one that arrives at the station
    abbrev Walked : ℕ → ℕ → ℕ → Type 0
    Walked i p n =
        ((c : ℕ) × (p ≡ stations t + c) × Reach t (rank_connection t s i) (at t (rank_connection t s i)).departure c n)
        ⊎ ((c : ℕ) × (m : ℕ) × (p ≡ (at t c).end.0) × (n ≡ m + (at t c).ride) × Reach t (rank_connection t s i) (at t (rank_connection t s i)).departure c m)

    same : {f b m : ℕ} (q c c' : ℕ) → q ≡ stations t + c → q ≡ stations t + c' → Reach t f b c' m → Reach t f b c m
    same {f} {b} {m} q c c' a e h = let z : c' ≡ c = omega arith in rw z at h

    known : (i c : ℕ) {m : ℕ} → Reach t (rank_connection t s i) (at t (rank_connection t s i)).departure c m → LawfulConnection t (at t c)
    known i c h = l.each c (runs_known t c (reach_runs t l (rank_connection t s i) (at t (rank_connection t s i)).departure h))

    late : (q m c c' k : ℕ) → c < connections t → q ≡ (at t c').end.0 → m ≡ k + (at t c').ride → k + (at t c').ride + transfer t (at t c').end.0 ≤ next_departure t c (m + transfer t q)
    late q m c c' k r e f = rw (← e, ← f) (next-first t l c r (m + transfer t q)).1

    walked_on : (i q m p n : ℕ) → Walked i q m → Gives t q m p n → Walked i p n
    walked_on i q m p n (inl (c', e, h)) (by_ride c r a b d) = inr (c, m, b, d, same q c c' a e h)
    walked_on i q m p n (inl (c', e, h)) (by_stay c x f r a b d) = inl (x, b, rw d (stay (same q c c' a e h) r f))
    walked_on i q m p n (inl (c', e, h)) (by_change c k r a b d) = absurd (omega (arith, (l.each c k).start_known))
    walked_on i q m p n (inr (c', k, e, f, h)) (by_ride c r a b d) = absurd (omega (arith, (known i c' h).end_known))
    walked_on i q m p n (inr (c', k, e, f, h)) (by_stay c x g r a b d) = absurd (omega (arith, (known i c' h).end_known))
    walked_on i q m p n (inr (c', k, e, f, h)) (by_change c y r a b d) = inl (c, b, rw d (change h r (sym a ∙ e) (next-first t l c y (m + transfer t q)).0 (late q m c c' k y e f)))

    walked : (i p n : ℕ) → Path (ways t s) i p n → Walked i p n
    walked i p n (begin f) = inl (rank_connection t s i, f.place, rw f.departure (first (departing t s i f.ranked).0 (mod-eq_of_lt (low t l (rank_connection t s i) ((ordered t s).sound i f.ranked).0))))
    walked i p n (go {q} {m} h g) = walked_on i q m p n (walked i q m h) g

    ranked : (i : ℕ) {p n : ℕ} → Path (ways t s) i p n → i < ranks t s
    ranked i (begin f) = f.ranked
    ranked i (go h g) = ranked i h

    abbrev Comes : ℕ → ℕ → Ride → Type 0
    Comes p n z = ((p ≡ (at t z.connection).end.0) × (arrival t z ≡ pos n)) ⊎ ((p ≡ connection_place t z.connection) × (z.moment ≡ pos n))

    pub reached : (i p n : ℕ) → Path (ways t s) i p n → Reaches t s i p n
    reached i p n h = by_case (walked i p n h)
      where
        so : (z : Ride) → Journey t (rank_connection t s i) (at t (rank_connection t s i)).departure z → Comes p n z → Reaches t s i p n
        so z j c = record {
          first = opening_ride t (rank_connection t s i);
          rest = j.rest;
          is_itinerary = j.itinerary;
          ranked = ranked i h;
          begins = refl;
          in_period = refl;
          comes = subst (Comes p n) (sym j.ends) c;
        }

        by_case : Walked i p n → Reaches t s i p n
        by_case (inl (c, e, r)) = so (record { connection = c; moment = pos n }) ((bridge t l (rank_connection t s i) (at t (rank_connection t s i)).departure (record { connection = c; moment = pos n })).1 (n, refl, r)) (inr (e, refl))
        by_case (inr (c, m, e, f, r)) = so (record { connection = c; moment = pos m }) ((bridge t l (rank_connection t s i) (at t (rank_connection t s i)).departure (record { connection = c; moment = pos m })).1 (m, refl, r)) (inl (e, ap pos (sym f)))

    -- a path of ways as early as a path of rides
    Early : ℕ → ℕ → ℕ → Type 0
    Early i p m = (n : ℕ) × Path (ways t s) i p n × (n ≤ m)

    on : (i q m p n : ℕ) → Early i q m → Gives t q m p n → Early i p n
    unfolding Early
    on i q m p n (k, h, a) g = let z = monotone t l q m p n k g a in (z.0, go h z.1, z.2)

    weaker : (i p m n : ℕ) → m ≤ n → Early i p m → Early i p n
    unfolding Early
    weaker i p m n a (k, h, b) = (k, h, omega arith)

    arrived : (i c n : ℕ) → Early i (stations t + c) n → c < connections t → Early i (at t c).end.0 (n + (at t c).ride)
    arrived i c n h k = on i (stations t + c) n (at t c).end.0 (n + (at t c).ride) h (by_ride c k refl refl refl)

    early : (i : ℕ) → i < ranks t s → {c m : ℕ} → Reach t (rank_connection t s i) (at t (rank_connection t s i)).departure c m → Early i (stations t + c) m
    unfolding Early
    early i k (first r e) = (_, begin (record { ranked = k; place = refl; departure = refl }), omega arith)
    early i k (stay {c} {e} {n} h r f) = on i (stations t + c) n (stations t + e) (n + (at t c).ride + stand t c e) (early i k h) (by_stay c e f r refl refl refl)
    early i k (change {c} {d} {n} {m} h r e f a) =
        let v = (at t c).end.0 in
        let y = runs_known t d r in
        weaker i (stations t + d) (next_departure t d (n + (at t c).ride + transfer t v)) m ((next-first t l d y (n + (at t c).ride + transfer t v)).2 m f a)
        (on i v (n + (at t c).ride) (stations t + d) (next_departure t d (n + (at t c).ride + transfer t v)) (arrived i c n (early i k h) (runs_known t c (reach_runs t l (rank_connection t s i) (at t (rank_connection t s i)).departure h))) (by_change d y r (sym e) refl refl))

    pub early_at : (i p n : ℕ) → Reaches t s i p n → (m : ℕ) × Path (ways t s) i p m × (m ≤ n)
    unfolding Early
    early_at i p n a = by_case (subst (λ r. Comes p n (last r a.rest)) opens a.comes)
      where
        f : ℕ
        f = rank_connection t s i

        opens : a.first ≡ opening_ride t (rank_connection t s i)
        opens k = record { connection = a.begins k; moment = (a.in_period ∙ ap (λ c. pos (at t c).departure) a.begins) k }

        z : Ride
        z = last (opening_ride t (rank_connection t s i)) a.rest

        w : (m : ℕ) × ((last (opening_ride t (rank_connection t s i)) a.rest).moment ≡ pos m) × Reach t (rank_connection t s i) (at t (rank_connection t s i)).departure (last (opening_ride t (rank_connection t s i)) a.rest).connection m
        w = (bridge t l (rank_connection t s i) (at t (rank_connection t s i)).departure (last (opening_ride t (rank_connection t s i)) a.rest)).0 (record { rest = a.rest; itinerary = subst (λ r. Itinerary t (r ∷ a.rest)) opens a.is_itinerary; ends = refl })

        c : ℕ
        c = (last (opening_ride t (rank_connection t s i)) a.rest).connection

        e : Early i (stations t + c) w.0
        e = early i a.ranked w.2

        by_case : Comes p n (last (opening_ride t (rank_connection t s i)) a.rest) → (m : ℕ) × Path (ways t s) i p m × (m ≤ n)
        by_case (inl (g, h)) =
            let y = arrived i c w.0 e (runs_known t c (reach_runs t l (rank_connection t s i) (at t (rank_connection t s i)).departure w.2)) in
            (y.0, subst (λ (v : ℕ). Path (ways t s) i v y.0) (sym g) y.1, omega (arith, ints, y.2, w.1, h))
        by_case (inr (g, h)) = (e.0, subst (λ (v : ℕ). Path (ways t s) i v e.0) (sym g) e.1, omega (arith, ints, e.2, w.1, h))

    pub labels : (i p n : ℕ) → Label (ways t s) i p n ↔ IsLabel t s i p n
    labels i p n = (to, from)
      where
        to : Label (ways t s) i p n → IsLabel t s i p n
        to b = record { reached = reached i p n b.reached; earliest = λ m a. let z = early_at i p m a in omega (arith, b.least z.0 z.1, z.2) }

        from : IsLabel t s i p n → Label (ways t s) i p n
        from b = record { reached = rw same-minute at z.1; least = least' }
          where
            z : (m : ℕ) × Path (ways t s) i p m × (m ≤ n)
            z = early_at i p n b.reached

            least' : (m : ℕ) → Path (ways t s) i p m → n ≤ m
            least' m h = b.earliest m (reached i p m h)

            same-minute : z.0 ≡ n
            same-minute = omega (arith, least' z.0 z.1, z.2)
