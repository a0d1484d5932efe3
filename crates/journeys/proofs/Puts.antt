-- How many entries a search puts.
use Rattle.std.proofs.Common.{◌≡◌, ℕ, zero, suc, ◌+◌, ◌*◌, ◌<◌, ◌≤◌, Bool, true, false, ◌&&◌, eqb, ◌⊎◌, List, [], ◌∷◌, ◌++◌, length, sym, refl, ap, ◌∙◌, inl, inr, arith, length-append}
use Rattle.std.proofs.lemmas.Bool.{cases_eq, eq-eqb, ne_eqb}
use Rattle.timetable.specs.Table.{Table, at, stations, connections}
use Rattle.timetable.specs.Labels.{ranks}
use Rattle.journeys.specs.Search.{Entry, Mem, State, start, then, skip, settle}
use Rattle.journeys.specs.Theorems.{ways}
use Rattle.journeys.specs.Queued.{each, only, opening, ride_by, stay_by, change_by, leads_by, led, SearchPutsFew}
use Rattle.journeys.proofs.Steps.{push_old, push_new}
use Rattle.journeys.proofs.Sizes.{search_small}

abbrev one : Bool → ℕ
one true = 1
one false = 0

-- how many labels are at place p
abbrev count : ℕ → List Entry → ℕ
count p [] = 0
count p (e ∷ l) = one (eqb e.place p) + count p l

count_push : (p : ℕ) (l : List Entry) (x : Entry) → count p (l ++ (x ∷ [])) ≡ count p l + one (eqb x.place p)
count_push p [] x = omega arith
count_push p (e ∷ l) x = omega (arith, count_push p l x)

module _ (t : Table) (s : ℕ) where
  -- the ranks settled at a place rise, so there are no more than the bound of ranks
  few_at : {l queue : List Entry} → State (ways t s) l queue → (p r : ℕ) → ((g : Entry) → Mem g l → g.place ≡ p → g.rank < r) → count p l ≤ r
  few_at (start b) p r h = omega arith
  few_at (then st (skip x g k m q w)) p r h = few_at st p r h
  few_at (then {l} st (settle x k f u)) p r h = on (cases_eq x.place p) (few_at st p x.rank) (few_at st p r)
    where
      on : (x.place ≡ p) ⊎ (x.place ≡ p → ⊥) → (((g : Entry) → Mem g l → g.place ≡ p → g.rank < x.rank) → count p l ≤ x.rank) → (((g : Entry) → Mem g l → g.place ≡ p → g.rank < r) → count p l ≤ r) → count p (l ++ (x ∷ [])) ≤ r
      on (inl e) a b = omega (arith, count_push p l x, ap one (eq-eqb _ _ e), a (λ g m q. f g m (q ∙ sym e)), h x (push_new x l) e)
      on (inr n) a b = omega (arith, count_push p l x, ap one (ne_eqb _ _ n), b (λ g m q. h g (push_old x m) q))

-- ---- what the labels of a list lead to, connection by connection

only-length : (b : Bool) (x : Entry) → length (only b x) ≡ one b
only-length true x = refl
only-length false x = refl

one-and : (a b : Bool) → one (a && b) ≤ one a
one-and true true = omega arith
one-and true false = omega arith
one-and false b = omega arith

one_and_right : (a b : Bool) → one (a && b) ≤ one b
one_and_right true b = omega arith
one_and_right false b = omega arith

module _ (t : Table) where
  -- at most these, by the first k connections
  abbrev led_by : Entry → ℕ → ℕ
  led_by e zero = 0
  led_by e (suc c) = one (eqb e.place (stations t + c)) + one (eqb e.place (stations t + c)) + one (eqb e.place (at t c).start.0) + led_by e c

  abbrev counted : List Entry → ℕ → ℕ
  counted l zero = 0
  counted l (suc c) = count (stations t + c) l + count (stations t + c) l + count (at t c).start.0 l + counted l c

  by_length : (e : Entry) (c : ℕ) → length (leads_by t e c) ≤ one (eqb e.place (stations t + c)) + one (eqb e.place (stations t + c)) + one (eqb e.place (at t c).start.0)
  by_length e c =
      let r : length (ride_by t e c) ≡ one (eqb e.place (stations t + c)) = only-length (eqb e.place (stations t + c)) _ in
      omega (arith, length-append (ride_by t e c) (stay_by t e c ++ change_by t e c), length-append (stay_by t e c) (change_by t e c), stay_length, change_length)
    where
      stay_length : length (stay_by t e c) ≤ one (eqb e.place (stations t + c))
      stay_length =
          let q : length (stay_by t e c) ≡ one (eqb e.place (stations t + c) && ((at t (c + 1)).runs && eqb (at t c).train.0 (at t (c + 1)).train.0)) = only-length (eqb e.place (stations t + c) && ((at t (c + 1)).runs && eqb (at t c).train.0 (at t (c + 1)).train.0)) _ in
          omega (arith, one-and (eqb e.place (stations t + c)) ((at t (c + 1)).runs && eqb (at t c).train.0 (at t (c + 1)).train.0))

      change_length : length (change_by t e c) ≤ one (eqb e.place (at t c).start.0)
      change_length =
          let q : length (change_by t e c) ≡ one ((at t c).runs && eqb e.place (at t c).start.0) = only-length ((at t c).runs && eqb e.place (at t c).start.0) _ in
          omega (arith, one_and_right (at t c).runs (eqb e.place (at t c).start.0))

  each-length : (e : Entry) (k : ℕ) → length (each (leads_by t e) k) ≤ led_by e k
  each-length e zero = omega arith
  each-length e (suc k) = omega (arith, length-append (leads_by t e k) (each (leads_by t e) k), by_length e k, each-length e k)

  counted_none : (k : ℕ) → counted [] k ≡ 0
  counted_none zero = refl
  counted_none (suc k) = omega (arith, counted_none k)

  counted_more : (e : Entry) (l : List Entry) (k : ℕ) → counted (e ∷ l) k ≡ led_by e k + counted l k
  counted_more e l zero = refl
  counted_more e l (suc k) = omega (arith, counted_more e l k)

  led-counted : (l : List Entry) → led t l ≤ counted l (connections t)
  led-counted [] = omega arith
  led-counted (e ∷ l) = omega (arith, each-length e (connections t), led-counted l, counted_more e l (connections t))

  counted_few : (l : List Entry) (m k : ℕ) → ((p : ℕ) → count p l ≤ m) → counted l k ≤ k * (3 * m)
  counted_few l m zero h = omega arith
  counted_few l m (suc k) h = omega (arith, h (stations t + k), h (at t k).start.0, counted_few l m k h)

opening-length : (f : ℕ → Entry) (k : ℕ) → length (each (λ i. f i ∷ []) k) ≡ k
opening-length f zero = refl
opening-length f (suc k) = ap suc (opening-length f k)

product : (m c : ℕ) → m + c * (3 * m) ≡ m * (3 * c + 1)
product m c = omega arith

pub puts_few : SearchPutsFew
puts_few t l s done queue st =
    let m = ranks t s in
    let few = counted_few t done m (connections t) (λ p. few_at t s st p m (λ g k q. ((search_small t l s done queue st).settled g k).1)) in
    let o : length (opening t s) ≡ ranks t s = opening-length _ (ranks t s) in
    omega (arith, led-counted t done, few, product m (connections t))
