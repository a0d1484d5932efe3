-- Origins in rows: each step back falls, a row has one chain from a place, and in rows that a search wrote the chain is there
-- and tells an itinerary and its legs.
use Rattle.std.proofs.Common.{◌≡◌, ℕ, ◌+◌, ◌*◌, ◌<◌, ◌≤◌, ◌⊎◌, List, [], ◌∷◌, map, ℤ, pos, ◌+ℤ◌, sym, refl, ap, ◌∙◌, subst, inl, inr, arith}
use borrow.Author.Differences.{ints}
use Rattle.std.proofs.lemmas.Bool.{cases_lt}
use Rattle.timetable.specs.declared.label.Label.{Label}
use Rattle.timetable.specs.declared.leg.Leg.{Leg}
use Rattle.timetable.specs.Table.{Table, Lawful, at, stations}
use Rattle.timetable.specs.Itinerary.{Ride, arrival, Departs, Stays, Changes, GoesOn, last}
use Rattle.timetable.specs.Legs.{ride_at, Legs, ends, stays, changes}
use Rattle.timetable.specs.Pairs.{Travels}
use Rattle.timetable.specs.Labels.{ranks, connection_place, places, Gives, by_ride, by_stay, by_change, no_origin}
use Rattle.timetable.specs.Rows.{Rows, IsEntry, head, entry}
use Rattle.journeys.specs.Search.{Entry, Mem}
use Rattle.journeys.specs.Theorems.{SettledExactly, Small}
use Rattle.journeys.specs.Trace.{Chain, from, back as go_back, rides_of, Tells, legs_of}
use Rattle.journeys.proofs.Clock.{times}
use Rattle.journeys.proofs.Ways.{forward}
use Rattle.journeys.proofs.Firsts.{departing}
use Rattle.journeys.proofs.Exactly.{found}
use Rattle.journeys.proofs.Sizes.{search_small}
use Rattle.journeys.proofs.Whole.{finishes}
use Rattle.journeys.proofs.Traced.{origins_tell}
use Rattle.journeys.proofs.Pairs.{distribute}
use Rattle.answers.specs.Chains.{label_at, RowChain, ends as chain_ends, back, leg_later}
use Rattle.answers.specs.Foreign.{Reached}
use Rattle.answers.proofs.Legwork.{leg_of_later}

-- ---- rows as they stand

-- a step to an origin comes from one of the places, leads to no later minute, and falls
pub gives_falls : (t : Table) → Lawful t → (q m p n : ℕ) → Gives t q m p n → (q < places t) × (m ≤ n) × (m * places t + q < n * places t + p)
gives_falls t law q m p n g = (low g, onward, deeper (cases_lt m n))
  where
    low : Gives t q m p n → q < places t
    low (by_ride c r a b e) = omega arith
    low (by_stay c d f r a b e) = omega (arith, f.next, f.there)
    low (by_change c d r a b e) = omega (arith, (law.each c d).start_known)

    onward : m ≤ n
    onward = (forward t law 0).onward q m p n g

    deeper : (m < n) ⊎ (n ≤ m) → m * places t + q < n * places t + p
    deeper (inl h) = omega (arith, low g, times (places t) (m + 1) n (omega arith))
    deeper (inr h) = let e : m ≡ n = omega (arith, onward) in rw e (omega (arith, (forward t law 0).upward q m p n g e))

-- no place is the mark of a first ride
pub not_nowhere : (t : Table) → Lawful t → (q : ℕ) → q < places t → q ≡ no_origin → ⊥
not_nowhere t law q h e = omega (arith, law.stations_high, law.connections_high)

-- from a place there is at most one chain
pub one_chain : (t : Table) → Lawful t → (memory : List Label) (i p : ℕ) (es fs : List Entry) → RowChain t memory i p es → RowChain t memory i p fs → es ≡ fs
one_chain t law memory i p es fs (chain_ends _ o c m) (chain_ends _ o' c' m') = refl
one_chain t law memory i p es fs (chain_ends _ o c m) (back _ g' r') = absurd (not_nowhere t law _ (gives_falls t law _ _ _ _ g').0 o)
one_chain t law memory i p es fs (back _ g r) (chain_ends _ o' c' m') = absurd (not_nowhere t law _ (gives_falls t law _ _ _ _ g).0 o')
one_chain t law memory i p es fs (back _ {es = gs} g r) (back _ {es = hs} g' r') = ap (λ (x : List Entry). label_at t memory i p ∷ x) (one_chain t law memory i _ gs hs r r')

-- a chain from a place without an origin is the first ride
pub chain_first : (t : Table) → Lawful t → (memory : List Label) (i p : ℕ) (es : List Entry) → RowChain t memory i p es → (entry t memory i p).origin ≡ no_origin → (p ≡ connection_place t (head t memory i).origin) × ((entry t memory i p).minute ≡ (head t memory i).minute) × (es ≡ label_at t memory i p ∷ [])
chain_first t law memory i p es (chain_ends _ o c m) e = (c, m, refl)
chain_first t law memory i p es (back _ g r) e = absurd (not_nowhere t law _ (gives_falls t law _ _ _ _ g).0 e)

-- and one from a place with an origin goes on from there
pub chain_onward : (t : Table) (memory : List Label) (i p : ℕ) (es : List Entry) → RowChain t memory i p es → ((entry t memory i p).origin ≡ no_origin → ⊥) → Gives t (entry t memory i p).origin (entry t memory i (entry t memory i p).origin).minute p (entry t memory i p).minute × ((fs : List Entry) × RowChain t memory i (entry t memory i p).origin fs × (es ≡ label_at t memory i p ∷ fs))
chain_onward t memory i p es (chain_ends _ o c m) e = absurd (e o)
chain_onward t memory i p es (back _ {es = fs} g r) e = (g, (fs, r, refl))

-- ---- itineraries and their legs, moved on by k periods

-- an itinerary that has these legs
pub record Legged (t : Table) (s v : ℕ) (d a : ℤ) (gs : List Leg) : Type 0 where
  pub travels : Travels t s v d a
  pub legs : Legs t travels.first travels.rest gs

module _ (t : Table) (k : ℕ) where
  abbrev later : Ride → Ride
  later r = record { connection = r.connection; moment = r.moment +ℤ pos (k * t.period) }

  later-departs : (r : Ride) → Departs t r → Departs t (later r)
  later-departs r d = record { known = d.known; runs = d.runs; periodic = (d.periodic.0 +ℤ pos k, omega (arith, ints, d.periodic.1, distribute d.periodic.0 (pos k) t.period)) }

  later_stays : (r s : Ride) → Stays t r s → Stays t (later r) (later s)
  later_stays r s h = record { aboard = h.aboard; stands = omega (arith, ints, h.stands) }

  stays_before : (r s : Ride) → Stays t (later r) (later s) → Stays t r s
  stays_before r s h = record { aboard = h.aboard; stands = omega (arith, ints, h.stands) }

  later_link : (r s : Ride) → Stays t r s ⊎ Changes t r s → Stays t (later r) (later s) ⊎ Changes t (later r) (later s)
  later_link r s (inl h) = inl (later_stays r s h)
  later_link r s (inr h) = inr (record { meets = h.meets; in_time = omega (arith, ints, h.in_time) })

  later_on : (r : Ride) (rs : List Ride) → GoesOn t r rs → GoesOn t (later r) (map later rs)
  later_on r [] i = tt
  later_on r (s ∷ rs) i = (later-departs s i.0, later_link r s i.1, later_on s rs i.2)

  later_last : (r : Ride) (rs : List Ride) → last (later r) (map later rs) ≡ later (last r rs)
  later_last r [] = refl
  later_last r (s ∷ rs) = later_last s rs

  later_legs : {r : Ride} {rs : List Ride} {gs : List Leg} → Legs t r rs gs → Legs t (later r) (map later rs) (map (leg_later (k * t.period)) gs)
  later_legs (ends c n) = rw (← leg_of_later t (k * t.period) c n) (ends c (n + k * t.period))
  later_legs (stays c n {s} {rest} {g} {gs} st h) = stays c (n + k * t.period) (later_stays (ride_at c n) s st) (later_legs h)
  later_legs (changes c n {s} {rest} {gs} st h) = rw (← leg_of_later t (k * t.period) c n) (changes c (n + k * t.period) (λ x. st (stays_before (ride_at c n) s x)) (later_legs h))

  pub later_legged : (s v : ℕ) (d a : ℤ) (gs : List Leg) → Legged t s v d a gs → Legged t s v (d +ℤ pos (k * t.period)) (a +ℤ pos (k * t.period)) (map (leg_later (k * t.period)) gs)
  later_legged s v d a gs w = record {
    travels = record {
      first = later w.travels.first;
      rest = map later w.travels.rest;
      is_itinerary = (later-departs _ w.travels.is_itinerary.0, later_on _ _ w.travels.is_itinerary.1);
      starts = w.travels.starts;
      ends = rw (later_last w.travels.first w.travels.rest) w.travels.ends;
      departs = ap (λ (x : ℤ). x +ℤ pos (k * t.period)) w.travels.departs;
      arrives = rw (later_last w.travels.first w.travels.rest) (omega (arith, ints, w.travels.arrives));
    };
    legs = later_legs w.legs;
  }

-- ---- rows that a search wrote

module _ (t : Table) (law : Lawful t) (s : ℕ) (memory : List Label) (rows : Rows t s memory) where
  module _ (l : List Entry) (x : SettledExactly t s l) (small : Small t s l []) where
    -- what is settled is what the row says
    says : (e : Entry) → Mem e l → e ≡ label_at t memory e.rank e.place
    says e m = by_entry (rows.entries e.rank e.place (small.settled e m).1 (small.settled e m).2)
      where
        by_entry : IsEntry t s e.rank e.place (entry t memory e.rank e.place) → e ≡ label_at t memory e.rank e.place
        by_entry (inl h) = small.once e (label_at t memory e.rank e.place) m ((x (label_at t memory e.rank e.place)).1 h) refl refl
        by_entry (inr h) = absurd (h.1 e.minute ((x e).0 m).0)

    settled : (i p : ℕ) → i < ranks t s → p < places t → Reached t memory p i → Mem (label_at t memory i p) l
    settled i p h k r = by_entry (rows.entries i p h k)
      where
        by_entry : IsEntry t s i p (entry t memory i p) → Mem (label_at t memory i p) l
        by_entry (inl q) = (x (label_at t memory i p)).1 q
        by_entry (inr q) = absurd (r (ap (λ (z : Label). z.minute) q.0))

    first_settled : (e : Entry) (es : List Entry) → Chain t s l e es → Mem e l
    first_settled e es (from _ m f o) = m
    first_settled e es (go_back _ g gs m r p d w c) = m

    given_at : {q q' m m' p n n' : ℕ} → q ≡ q' → m ≡ m' → n ≡ n' → Gives t q m p n → Gives t q' m' p n'
    given_at a b c g = rw (← a, ← b, ← c) g

    chained : (e : Entry) (es : List Entry) → Chain t s l e es → RowChain t memory e.rank e.place es
    chained e es (from _ m f o) =
        let y = says e m in
        let h = rows.heads e.rank f.ranked in
        subst (λ (z : Entry). RowChain t memory e.rank e.place (z ∷ [])) (sym y)
        (chain_ends e.place
        (sym (ap (λ (z : Entry). z.origin) y) ∙ o)
        (f.place ∙ ap (λ (z : Label). connection_place t z.origin) (sym h))
        (sym (ap (λ (z : Entry). z.minute) y) ∙ f.departure ∙ ap (λ (z : Label). z.minute) (sym h)))
    chained e es (go_back _ g gs m r p d w c) =
        let y = says e m in
        let z = says g (first_settled g gs c) in
        let o : g.place ≡ (entry t memory e.rank e.place).origin = p ∙ ap (λ (q : Entry). q.origin) y in
        let n : g.minute ≡ (entry t memory e.rank (entry t memory e.rank e.place).origin).minute =
        ap (λ (q : Entry). q.minute) z ∙ ap (λ (i : ℕ). (entry t memory i g.place).minute) r ∙ ap (λ (q : ℕ). (entry t memory e.rank q).minute) o in
        subst (λ (q : Entry). RowChain t memory e.rank e.place (q ∷ gs)) (sym y)
        (back e.place (given_at o n (ap (λ (q : Entry). q.minute) y) w)
        (subst (λ (q : ℕ). RowChain t memory e.rank q gs) o (subst (λ (i : ℕ). RowChain t memory i g.place gs) r (chained g gs c))))

  -- what row i tells of place p
  pub record RowTold (i p : ℕ) : Type 0 where
    pub entries : List Entry
    pub chain : RowChain t memory i p entries
    pub tells : Tells t s (label_at t memory i p) (rides_of t entries)
    pub legs : Legs t tells.first tells.rest (legs_of t entries)

  pub row_told : (i p : ℕ) → i < ranks t s → p < places t → Reached t memory p i → RowTold i p
  row_told i p h k r =
      let q = finishes t law s in
      let x = found t law s q.0 q.1 in
      let z = search_small t law s q.0 [] q.1 in
      let w = origins_tell t law s q.0 q.1 (label_at t memory i p) (settled q.0 x z i p h k r) in
      record { entries = w.entries; chain = chained q.0 x z (label_at t memory i p) w.entries w.chain; tells = w.tells; legs = w.legs }

  -- of a station, an itinerary with its legs
  pub told_legged : (i v : ℕ) → i < ranks t s → v < stations t → (w : RowTold i v) → Legged t s v (pos (head t memory i).minute) (pos (entry t memory i v).minute) (legs_of t w.entries)
  told_legged i v h k w = by_case w.tells.comes
    where
      by_case : ((v ≡ (at t (last w.tells.first w.tells.rest).connection).end.0) × (arrival t (last w.tells.first w.tells.rest) ≡ pos (entry t memory i v).minute))
          ⊎ ((v ≡ connection_place t (last w.tells.first w.tells.rest).connection) × ((last w.tells.first w.tells.rest).moment ≡ pos (entry t memory i v).minute))
          → Legged t s v (pos (head t memory i).minute) (pos (entry t memory i v).minute) (legs_of t w.entries)
      by_case (inl c) = record {
        travels = record {
          first = w.tells.first;
          rest = w.tells.rest;
          is_itinerary = w.tells.is_itinerary;
          starts = ap (λ (c : ℕ). (at t c).start.0) w.tells.begins ∙ (departing t s i h).1;
          ends = sym c.0;
          departs = w.tells.in_period ∙ ap (λ (z : Label). pos z.minute) (sym (rows.heads i h));
          arrives = c.1;
        };
        legs = w.legs;
      }
      by_case (inr c) = absurd (omega (arith, c.0))

  -- the legs of a row's chain, moved on, are those of an itinerary
  pub chain_legged : (i v k : ℕ) → i < ranks t s → v < stations t → Reached t memory v i → (es : List Entry) → RowChain t memory i v es → Legged t s v (pos ((head t memory i).minute + k * t.period)) (pos ((entry t memory i v).minute + k * t.period)) (map (leg_later (k * t.period)) (legs_of t es))
  chain_legged i v k h b r es c =
      let w = row_told i v h (omega arith) r in
      rw (one_chain t law memory i v es w.entries c w.chain) (later_legged t k s v _ _ _ (told_legged i v h b w))
