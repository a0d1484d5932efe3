-- The lists of the queue have the entries that they should.
use Rattle.std.proofs.Common.{◌≡◌, ℕ, zero, suc, ◌+◌, ◌*◌, ◌<◌, ◌≤◌, Bool, true, false, ◌&&◌, eqb, ◌⊎◌, List, [], ◌∷◌, ◌++◌, length, sym, refl, ap, ◌∙◌, subst, inl, inr, arith, length-append}
use Rattle.std.proofs.lemmas.Bool.{cond-true, and_parts, and_from, eqb-true, eq-eqb, cases_eq}
use Rattle.timetable.specs.Table.{Table, at, stations, connections, transfer, stand, next_departure, Lawful}
use Rattle.timetable.specs.Labels.{ranks, rank_connection, Gives, by_ride, by_stay, by_change, IsFirstRide}
use Rattle.journeys.specs.Search.{Entry, entry, nowhere, Mem, here, there, Next}
use Rattle.journeys.specs.Theorems.{ways}
use Rattle.journeys.specs.Queued.{each, only, opening, leads_by, leads, OpeningBegins, LeadsPut}
use Rattle.journeys.proofs.Clock.{runs_known}

none : {e : Entry} → Mem e [] → ⊥
none m = elim m [ ]

pub join_left : {e : Entry} {a : List Entry} (b : List Entry) → Mem e a → Mem e (a ++ b)
join_left b here = here
join_left b (there m) = there (join_left b m)

pub join_right : {e : Entry} (a : List Entry) {b : List Entry} → Mem e b → Mem e (a ++ b)
join_right [] m = m
join_right (x ∷ a) m = there (join_right a m)

pub join_parts : {e : Entry} (a b : List Entry) → Mem e (a ++ b) → Mem e a ⊎ Mem e b
join_parts [] b m = inr m
join_parts (x ∷ a) b here = inl here
join_parts (x ∷ a) b (there m) = elim (join_parts a b m) [ inl k ↦ inl (there k) | inr k ↦ inr k ]

single : {e x : Entry} → Mem e (x ∷ []) → e ≡ x
single here = refl
single (there m) = absurd (none m)

only_in : (b : Bool) (e x : Entry) → b ≡ true → e ≡ x → Mem e (only b x)
only_in b e x h q = subst (Mem e) (sym (cond-true b (x ∷ []) [] h)) (rw q here)

only_out : (b : Bool) (e x : Entry) → Mem e (only b x) → (b ≡ true) × (e ≡ x)
only_out true e x m = (refl, single m)
only_out false e x m = absurd (none m)

each_in : (f : ℕ → List Entry) (e : Entry) (c k : ℕ) → c < k → Mem e (f c) → Mem e (each f k)
each_in f e c zero h m = absurd (omega arith)
each_in f e c (suc k) h m = elim (cases_eq c k) [ inl q ↦ join_left (each f k) (rw q at m) | inr q ↦ join_right (f k) (each_in f e c k (omega arith) m) ]

each_out : (f : ℕ → List Entry) (e : Entry) (k : ℕ) → Mem e (each f k) → (c : ℕ) × (c < k) × Mem e (f c)
each_out f e zero m = absurd (none m)
each_out f e (suc k) m = elim (join_parts (f k) (each f k) m) [ inl h ↦ (k, omega arith, h) | inr h ↦ (let z = each_out f e k h in (z.0, omega (arith, z.1), z.2)) ]

same : {a b : Entry} → a.minute ≡ b.minute → a.rank ≡ b.rank → a.place ≡ b.place → a.origin ≡ b.origin → a ≡ b
same m r p o = λ i. record { minute = m i; rank = r i; place = p i; origin = o i }

pub opening_begins : OpeningBegins
opening_begins t l s = record { put = put'; only = only' }
  where
    f : ℕ → List Entry
    f i = entry (at t (rank_connection t s i)).departure i (stations t + rank_connection t s i) nowhere ∷ []

    put' : (i p n : ℕ) → IsFirstRide t s i p n → Mem (entry n i p nowhere) (opening t s)
    put' i p n h = each_in f (entry n i p nowhere) i (ranks t s) h.ranked (rw (h.place, h.departure) here)

    only' : (e : Entry) → Mem e (opening t s) → IsFirstRide t s e.rank e.place e.minute × (e.origin ≡ nowhere)
    only' e m =
        let z = each_out f e (ranks t s) m in
        subst (λ (x : Entry). IsFirstRide t s x.rank x.place x.minute × (x.origin ≡ nowhere)) (sym (single z.2)) (record { ranked = z.1; place = refl; departure = refl }, refl)

module _ (t : Table) (l : Lawful t) (s : ℕ) (x : Entry) where
  -- what x leads to by connection c
  abbrev ride_of : ℕ → Entry
  ride_of c = entry (x.minute + (at t c).ride) x.rank (at t c).end.0 x.place

  abbrev stay_of : ℕ → Entry
  stay_of c = entry (x.minute + (at t c).ride + stand t c (c + 1)) x.rank (stations t + (c + 1)) x.place

  abbrev change_of : ℕ → Entry
  change_of c = entry (next_departure t c (x.minute + transfer t x.place)) x.rank (stations t + c) x.place

  abbrev rides : ℕ → Bool
  rides c = eqb x.place (stations t + c)

  abbrev stays_on : ℕ → Bool
  stays_on c = eqb x.place (stations t + c) && ((at t (c + 1)).runs && eqb (at t c).train.0 (at t (c + 1)).train.0)

  abbrev changes_to : ℕ → Bool
  changes_to c = (at t c).runs && eqb x.place (at t c).start.0

  next_in : (e : Entry) → Next (ways t s) x e → (c : ℕ) × (c < connections t) × Mem e (leads_by t x c)
  next_in e n = by_case n.given
    where
      by_case : Gives t x.place x.minute e.place e.minute → (c : ℕ) × (c < connections t) × Mem e (leads_by t x c)
      by_case (by_ride c r a b d) = (c, r, join_left _ (only_in (rides c) e (ride_of c) (eq-eqb _ _ a) (same d n.rank b n.origin)))
      by_case (by_stay c k f r a b d) = (
        c,
        omega (arith, f.next, f.there),
        join_right (only (rides c) (ride_of c)) (join_left _ (only_in (stays_on c) e (stay_of c)
            (and_from _ _ (eq-eqb _ _ a) (and_from _ _ (subst (λ (y : ℕ). (at t y).runs ≡ true) f.next r) (eq-eqb _ _ (f.same_train ∙ ap (λ (y : ℕ). (at t y).train.0) f.next))))
            (same (d ∙ ap (λ (y : ℕ). x.minute + (at t c).ride + stand t c y) f.next) n.rank (b ∙ ap (λ (y : ℕ). stations t + y) f.next) n.origin))),
      )
      by_case (by_change c k r a b d) = (c, k, join_right (only (rides c) (ride_of c)) (join_right (only (stays_on c) (stay_of c)) (only_in (changes_to c) e (change_of c) (and_from _ _ r (eq-eqb _ _ a)) (same d n.rank b n.origin))))

  next_is : (e f : Entry) → e ≡ f → f.rank ≡ x.rank → f.origin ≡ x.place → Gives t x.place x.minute f.place f.minute → Next (ways t s) x e
  next_is e f q r o g = subst (Next (ways t s) x) (sym q) (record { given = g; rank = r; origin = o })

  next_out : (e : Entry) (c : ℕ) → c < connections t → Mem e (leads_by t x c) → Next (ways t s) x e
  next_out e c y m = first_of (join_parts (only (rides c) (ride_of c)) _ m)
    where
      third : Mem e (only (changes_to c) (change_of c)) → Next (ways t s) x e
      third k =
          let z = only_out (changes_to c) e (change_of c) k in
          let p = and_parts (at t c).runs (eqb x.place (at t c).start.0) z.0 in
          next_is e (change_of c) z.1 refl refl (by_change c y p.0 (eqb-true _ _ p.1) refl refl)

      second : Mem e (only (stays_on c) (stay_of c)) → Next (ways t s) x e
      second k =
          let z = only_out (stays_on c) e (stay_of c) k in
          let p = and_parts (eqb x.place (stations t + c)) _ z.0 in
          let q = and_parts (at t (c + 1)).runs (eqb (at t c).train.0 (at t (c + 1)).train.0) p.1 in
          next_is e (stay_of c) z.1 refl refl (by_stay c (c + 1) (record { next = refl; there = runs_known t (c + 1) q.0; same_train = eqb-true _ _ q.1 }) q.0 (eqb-true _ _ p.0) refl refl)

      rest_of : Mem e (only (stays_on c) (stay_of c)) ⊎ Mem e (only (changes_to c) (change_of c)) → Next (ways t s) x e
      rest_of (inl k) = second k
      rest_of (inr k) = third k

      first_of : Mem e (only (rides c) (ride_of c)) ⊎ Mem e (only (stays_on c) (stay_of c) ++ only (changes_to c) (change_of c)) → Next (ways t s) x e
      first_of (inl k) = let z = only_out (rides c) e (ride_of c) k in next_is e (ride_of c) z.1 refl refl (by_ride c y (eqb-true _ _ z.0) refl refl)
      first_of (inr k) = rest_of (join_parts (only (stays_on c) (stay_of c)) (only (changes_to c) (change_of c)) k)

pub leads-put : LeadsPut
leads-put t l s x rest = record { kept = λ e m. join_right (leads t x) m; put = put'; only = λ e m. only' e (join_parts (leads t x) rest m) }
  where
    put' : (e : Entry) → Next (ways t s) x e → Mem e (leads t x ++ rest)
    put' e n = let z = next_in t l s x e n in join_left rest (each_in (leads_by t x) e z.0 (connections t) z.1 z.2)

    only' : (e : Entry) → Mem e (leads t x) ⊎ Mem e rest → Mem e rest ⊎ Next (ways t s) x e
    only' e (inl m) = let z = each_out (leads_by t x) e (connections t) m in inr (next_out t l s x e z.0 z.1 z.2)
    only' e (inr m) = inl m

-- how many they are
only-length : (b : Bool) (x : Entry) → length (only b x) ≤ 1
only-length true x = omega arith
only-length false x = omega arith

each-length : (f : ℕ → List Entry) (n k : ℕ) → ((c : ℕ) → length (f c) ≤ n) → length (each f k) ≤ k * n
each-length f n zero h = omega arith
each-length f n (suc k) h = omega (arith, length-append (f k) (each f k), h k, each-length f n k h)

pub leads-length : (t : Table) (x : Entry) → length (leads t x) ≤ connections t * 3
leads-length t x = each-length (leads_by t x) 3 (connections t) by
  where
    by : (c : ℕ) → length (leads_by t x c) ≤ 3
    by c = simp length-append (omega (arith, only-length))
