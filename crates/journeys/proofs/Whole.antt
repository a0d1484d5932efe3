-- Every search comes to its end.
use Rattle.std.proofs.Common.{◌≡◌, ℕ, zero, suc, ◌+◌, ◌-◌, ◌*◌, ◌<◌, ◌≤◌, ◌⊎◌, List, [], ◌∷◌, ◌++◌, length, refl, ap, inl, inr, add-one, arith, length-append}
use Rattle.std.proofs.lemmas.Bool.{cases_eq, cases_lt, cases_order}
use Rattle.timetable.specs.Table.{Table, connections, Lawful}
use Rattle.timetable.specs.Labels.{ranks, places}
use Rattle.journeys.specs.Search.{Entry, Mem, here, there, Before, Takes, skip, settle, State, start, then}
use Rattle.journeys.specs.Theorems.{ways}
use Rattle.journeys.specs.Queued.{opening, leads, SearchFinishes}
use Rattle.journeys.proofs.Steps.{before_trans, nobody}
use Rattle.journeys.proofs.Queued.{opening_begins, leads-put, leads-length}
use Rattle.journeys.proofs.Sizes.{search_small}

-- of two entries one comes before the other
pub either : (a b : Entry) → Before a b ⊎ Before b a
either a b = by_minute (cases_order a.minute b.minute)
  where
    by_origin : a.minute ≡ b.minute → a.rank ≡ b.rank → a.place ≡ b.place → (a.origin < b.origin) ⊎ (b.origin ≤ a.origin) → Before a b ⊎ Before b a
    by_origin m r p (inl h) = inr (omega arith)
    by_origin m r p (inr h) = inl (omega arith)

    by_place : a.minute ≡ b.minute → a.rank ≡ b.rank → (a.place ≡ b.place) ⊎ ((a.place < b.place) ⊎ (b.place < a.place)) → Before a b ⊎ Before b a
    by_place m r (inl p) = by_origin m r p (cases_lt a.origin b.origin)
    by_place m r (inr (inl h)) = inl (omega arith)
    by_place m r (inr (inr h)) = inr (omega arith)

    by_rank : a.minute ≡ b.minute → (a.rank ≡ b.rank) ⊎ ((a.rank < b.rank) ⊎ (b.rank < a.rank)) → Before a b ⊎ Before b a
    by_rank m (inl r) = by_place m r (cases_order a.place b.place)
    by_rank m (inr (inl h)) = inr (omega arith)
    by_rank m (inr (inr h)) = inl (omega arith)

    by_minute : (a.minute ≡ b.minute) ⊎ ((a.minute < b.minute) ⊎ (b.minute < a.minute)) → Before a b ⊎ Before b a
    by_minute (inl m) = by_rank m (cases_order a.rank b.rank)
    by_minute (inr (inl h)) = inl (omega arith)
    by_minute (inr (inr h)) = inr (omega arith)

-- the least entry of a queue
record Least (queue : List Entry) : Type 0 where
  x : Entry
  rest : List Entry
  takes : Takes queue x rest
  shorter : suc (length rest) ≡ length queue

least : (y : Entry) (ys : List Entry) → Least (y ∷ ys)
least y [] = record { x = y; rest = []; shorter = refl; takes = record { held = here; least = λ e m. absurd (nobody m); kept = λ e m. absurd (nobody m); others = others' } }
  where
    others' : (e : Entry) → Mem e (y ∷ []) → (e ≡ y) ⊎ Mem e []
    others' e here = inl refl
    others' e (there m) = inr m
least y (z ∷ ys) = on (least z ys)
  where
    on : Least (z ∷ ys) → Least (y ∷ z ∷ ys)
    on h = elim (either y h.x) [ inl b ↦ front b | inr b ↦ back b ]
      where
        front : Before y h.x → Least (y ∷ z ∷ ys)
        front b = record { x = y; rest = z ∷ ys; shorter = refl; takes = record { held = here; least = λ e m. least' e (h.takes.others e m); kept = λ e m. there m; others = others' } }
          where
            least' : (e : Entry) → (e ≡ h.x) ⊎ Mem e h.rest → Before y e
            least' e (inl q) = rw q b
            least' e (inr m) = before_trans y h.x e b (h.takes.least e m)

            others' : (e : Entry) → Mem e (y ∷ z ∷ ys) → (e ≡ y) ⊎ Mem e (z ∷ ys)
            others' e here = inl refl
            others' e (there m) = inr m

        back : Before h.x y → Least (y ∷ z ∷ ys)
        back b = record { x = h.x; rest = y ∷ h.rest; shorter = ap suc h.shorter; takes = record { held = there h.takes.held; least = least'; kept = kept'; others = others' } }
          where
            least' : (e : Entry) → Mem e (y ∷ h.rest) → Before h.x e
            least' e here = b
            least' e (there m) = h.takes.least e m

            kept' : (e : Entry) → Mem e (y ∷ h.rest) → Mem e (y ∷ z ∷ ys)
            kept' e here = here
            kept' e (there m) = there (h.takes.kept e m)

            others' : (e : Entry) → Mem e (y ∷ z ∷ ys) → (e ≡ h.x) ⊎ Mem e (y ∷ h.rest)
            others' e here = inr here
            others' e (there m) = elim (h.takes.others e m) [ inl q ↦ inl q | inr k ↦ inr (there k) ]

-- a settled label that makes an entry needless, or none
top : (l : List Entry) (x : Entry) → ((g : Entry) × Mem g l × (g.place ≡ x.place) × (x.rank ≤ g.rank)) ⊎ ((g : Entry) → Mem g l → g.place ≡ x.place → g.rank < x.rank)
top [] x = inr (λ g m. absurd (nobody m))
top (e ∷ l) x = on (top l x) (cases_eq e.place x.place) (cases_lt e.rank x.rank)
  where
    on : ((g : Entry) × Mem g l × (g.place ≡ x.place) × (x.rank ≤ g.rank)) ⊎ ((g : Entry) → Mem g l → g.place ≡ x.place → g.rank < x.rank)
        → (e.place ≡ x.place) ⊎ (e.place ≡ x.place → ⊥) → (e.rank < x.rank) ⊎ (x.rank ≤ e.rank)
        → ((g : Entry) × Mem g (e ∷ l) × (g.place ≡ x.place) × (x.rank ≤ g.rank)) ⊎ ((g : Entry) → Mem g (e ∷ l) → g.place ≡ x.place → g.rank < x.rank)
    on (inl (g, m, p, r)) c d = inl (g, there m, p, r)
    on (inr h) (inl p) (inr r) = inl (e, here, p, r)
    on (inr h) (inl p) (inl r) = inr lower
      where
        lower : (g : Entry) → Mem g (e ∷ l) → g.place ≡ x.place → g.rank < x.rank
        lower g here q = r
        lower g (there m) q = h g m q
    on (inr h) (inr p) d = inr lower
      where
        lower : (g : Entry) → Mem g (e ∷ l) → g.place ≡ x.place → g.rank < x.rank
        lower g here q = absurd (p q)
        lower g (there m) q = h g m q

pub less_left : (A a K q r n : ℕ) → suc a ≤ A → n ≤ K → suc r ≡ q → (A - suc a) * (K + 1) + (n + r) < (A - a) * (K + 1) + q
less_left A a K q r n h k e = let z : A - a ≡ suc (A - suc a) = omega arith in rw z (omega arith)

module _ (t : Table) (l : Lawful t) (s : ℕ) where
  -- what is left to do: each label that can still be settled may put so many entries
  abbrev todo : List Entry → List Entry → ℕ
  todo done queue = (ranks t s * places t - length done) * (connections t * 3 + 1) + length queue

  record Went (done queue : List Entry) : Type 0 where
    done' : List Entry
    queue' : List Entry
    state : State (ways t s) done' queue'
    less : todo done' queue' < todo done queue

  went : (done : List Entry) (y : Entry) (ys : List Entry) → State (ways t s) done (y ∷ ys) → Went done (y ∷ ys)
  went done y ys st = by_case (top done h.x)
    where
      h : Least (y ∷ ys)
      h = least y ys

      by_case : ((g : Entry) × Mem g done × (g.place ≡ h.x.place) × (h.x.rank ≤ g.rank)) ⊎ ((g : Entry) → Mem g done → g.place ≡ h.x.place → g.rank < h.x.rank) → Went done (y ∷ ys)
      by_case (inl (g, m, p, r)) = record { done' = done; queue' = h.rest; state = then st (skip h.x g h.takes m p r); less = omega (arith, h.shorter) }
      by_case (inr f) = record { done' = done ++ (h.x ∷ []); queue' = leads t h.x ++ h.rest; state = st'; less = rw (length-append done (h.x ∷ []), length-append (leads t h.x) h.rest, add-one) (less_left (ranks t s * places t) (length done) (connections t * 3) (length (y ∷ ys)) (length h.rest) (length (leads t h.x)) (omega (arith, length-append done (h.x ∷ []), (search_small t l s (done ++ (h.x ∷ [])) (leads t h.x ++ h.rest) st').few)) (leads-length t h.x) h.shorter) }
        where
          st' : State (ways t s) (done ++ (h.x ∷ [])) (leads t h.x ++ h.rest)
          st' = then st (settle h.x h.takes f (leads-put t l s h.x h.rest))

  finish : (n : ℕ) (done queue : List Entry) → todo done queue ≤ n → State (ways t s) done queue → (l : List Entry) × State (ways t s) l []
  finish n done [] h st = (done, st)
  finish zero done (y ∷ ys) h st = absurd (omega arith)
  finish (suc n) done (y ∷ ys) h st = let w = went done y ys st in finish n w.done' w.queue' (omega (arith, w.less)) w.state

pub finishes : SearchFinishes
finishes t l s = finish t l s (todo t l s [] (opening t s)) [] (opening t s) (omega arith) (start (opening_begins t l s))
