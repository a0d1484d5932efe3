-- Itineraries that depart at 0 or later are the paths of `Reach`.
use Rattle.std.proofs.Common.{◌≡◌, ℕ, ◌+◌, ◌%◌, ◌<◌, ◌≤◌, ◌⊎◌, List, [], ◌∷◌, ◌++◌, ℤ, pos, negsuc, ◌+ℤ◌, ◌≤ℤ◌, sym, refl, ap, ◌∙◌, subst, inl, inr, arith}
use native.Mathlib.Nat.{mod-add-mod}
use borrow.Author.Differences.{ints}
use Rattle.timetable.specs.Table.{Table, at, connections, transfer, stand, Lawful}
use Rattle.timetable.specs.Itinerary.{Ride, arrival, Departs, Stays, Changes, GoesOn, last}
use Rattle.journeys.specs.Paths.{Runs, Journey, Reach, first, stay, change, Bridge}
use Rattle.journeys.proofs.Clock.{after-departs, runs_known, departs_pos, pos_departs}

module _ (t : Table) (l : Lawful t) where
  pub low : (c : ℕ) → c < connections t → (at t c).departure < t.period
  low c k = (l.each c k).in_period

  -- after the stand the connection that follows departs
  pub stood : (c e n : ℕ) → e < connections t → n % t.period ≡ (at t c).departure → (n + (at t c).ride + stand t c e) % t.period ≡ (at t e).departure
  stood c e n k h =
      ap (λ y. y % t.period) (omega arith)
      ∙ sym (mod-add-mod n t.period ((at t c).ride + stand t c e))
      ∙ ap (λ y. y % t.period) (omega arith)
      ∙ after-departs (at t e).departure t.period (low e k) ((at t c).departure + (at t c).ride)

  module _ (f b : ℕ) where
    pub reach_runs : {c n : ℕ} → Reach t f b c n → Runs t c
    reach_runs (first r e) = r
    reach_runs (stay h r _) = r
    reach_runs (change h r _ _ _) = r

    pub reach_departs : {c n : ℕ} → Reach t f b c n → n % t.period ≡ (at t c).departure
    reach_departs (first r e) = e
    reach_departs (stay {c} {e} {n} h r a) = stood c e n (runs_known t e r) (reach_departs h)
    reach_departs (change h r _ e _) = e

    -- from the itinerary
    abbrev Reached : Ride → Type 0
    Reached z = (n : ℕ) × (z.moment ≡ pos n) × Reach t f b z.connection n

    later : (r s : Ride) (n : ℕ) → r.moment ≡ pos n → (z : ℤ) → s.moment ≡ z → (arrival t r +ℤ pos (transfer t (at t r.connection).end.0)) ≤ℤ s.moment → (m : ℕ) × (s.moment ≡ pos m) × (n + (at t r.connection).ride + transfer t (at t r.connection).end.0 ≤ m)
    later r s n e (pos m) q h = (m, q, omega (arith, ints))
    later r s n e (negsuc m) q h = absurd (omega (arith, ints))

    follow : (r s : Ride) → Reached r → Stays t r s ⊎ Changes t r s → Departs t s → Reached s
    follow r s (n, e, h) (inl k) d = (
      n + (at t r.connection).ride + stand t r.connection s.connection,
      k.stands ∙ ap (λ x. x +ℤ pos (at t r.connection).ride +ℤ pos (stand t r.connection s.connection)) e,
      stay h d.runs k.aboard,
    )
    follow r s (n, e, h) (inr k) d =
        let z = later r s n e s.moment refl k.in_time in
        (z.0, z.1, change h d.runs k.meets (departs_pos t l s z.0 d z.1) z.2)

    walk : (r : Ride) (rs : List Ride) → Reached r → GoesOn t r rs → Reached (last r rs)
    walk r [] h i = h
    walk r (s ∷ rs) h i = walk s rs (follow r s h i.1 i.0) i.2

    -- to the itinerary
    pub snoc : (r : Ride) (rs : List Ride) (s : Ride) → GoesOn t r rs → Departs t s → Stays t (last r rs) s ⊎ Changes t (last r rs) s → GoesOn t r (rs ++ (s ∷ []))
    snoc r [] s i d h = (d, h, tt)
    snoc r (x ∷ rs) s i d h = (i.0, i.1, snoc x rs s i.2 d h)

    pub snoc_last : (r : Ride) (rs : List Ride) (s : Ride) → last r (rs ++ (s ∷ [])) ≡ s
    snoc_last r [] s = refl
    snoc_last r (x ∷ rs) s = snoc_last x rs s

    abbrev pub ride : ℕ → ℕ → Ride
    ride c n = record { connection = c; moment = pos n }

    extend : (z s : Ride) → Journey t f b z → Departs t s → Stays t z s ⊎ Changes t z s → Journey t f b s
    extend z s j d h = record {
      rest = j.rest ++ (s ∷ []);
      itinerary = (j.itinerary.0, snoc (ride f b) j.rest s j.itinerary.1 d (rw j.ends h));
      ends = snoc_last (ride f b) j.rest s;
    }

    travel : {c n : ℕ} → Reach t f b c n → Journey t f b (ride c n)
    travel (first r e) = record { rest = []; itinerary = (pos_departs t f b r e, tt); ends = refl }
    travel (stay {c} {e} {n} h r a) = extend (ride c n) (ride e (n + (at t c).ride + stand t c e)) (travel h) (pos_departs t e _ r (stood c e n (runs_known t e r) (reach_departs h))) (inl (record { aboard = a; stands = refl }))
    travel (change {c} {d} {n} {m} h r k e a) = extend (ride c n) (ride d m) (travel h) (pos_departs t d m r e) (inr (record { meets = k; in_time = omega (arith, ints) }))

    there : (z : Ride) → Journey t f b z → Reached z
    there z j = rw j.ends at (walk (ride f b) j.rest (b, refl, first j.itinerary.0.runs (departs_pos t l (ride f b) b j.itinerary.0 refl)) j.itinerary.1)

    back : (z : Ride) → Reached z → Journey t f b z
    back z (n, e, h) = subst (Journey t f b) (λ i. record { connection = z.connection; moment = sym e i }) (travel h)

pub bridge : Bridge
bridge t l f b z = (there t l f b z, back t l f b z)
