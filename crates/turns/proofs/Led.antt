-- What an entry leads to, connection by connection.
use Rattle.std.proofs.Common.{◌≡◌, ℕ, zero, suc, ◌+◌, ◌<◌, ◌≤◌, false, ◌&&◌, eqb, List, [], ◌∷◌, ◌++◌, length, refl, ap, ◌∙◌, inl, inr, arith, length-append}
use Rattle.std.proofs.lemmas.Bool.{cases_eq, and_left, and_right, ne_eqb, cond-false}
use Rattle.timetable.specs.Table.{Table, Lawful, at, stations, connections}
use Rattle.journeys.specs.Search.{Entry}
use Rattle.journeys.specs.Queued.{each, ride_by, stay_by, change_by, leads_by, leads, led}

pub each-rises : (f : ℕ → List Entry) (a b : ℕ) → a ≤ b → length (each f a) ≤ length (each f b)
each-rises f a zero h = let z : a ≡ 0 = omega arith in rw z (omega arith)
each-rises f a (suc b) h = elim (cases_eq a (suc b)) [ inl e ↦ rw e (omega arith) | inr e ↦ omega (arith, length-append (f b) (each f b), each-rises f a b (omega arith)) ]

pub each-count : (f : ℕ → List Entry) (k : ℕ) → ((i : ℕ) → length (f i) ≡ 1) → length (each f k) ≡ k
each-count f zero h = refl
each-count f (suc k) h = omega (arith, length-append (f k) (each f k), h k, each-count f k h)

-- one more settled label
pub led_more : (t : Table) (l : List Entry) (x : Entry) → led t (l ++ (x ∷ [])) ≡ led t l + length (leads t x)
led_more t [] x = omega arith
led_more t (e ∷ l) x = omega (arith, led_more t l x)

-- ---- a connection leads on by itself alone

append_none : (a : List Entry) → a ++ [] ≡ a
append_none [] = refl
append_none (x ∷ a) = ap (λ (z : List Entry). x ∷ z) (append_none a)

each_none : (f : ℕ → List Entry) (k : ℕ) → ((c : ℕ) → c < k → f c ≡ []) → each f k ≡ []
each_none f zero h = refl
each_none f (suc k) h = ap (λ (z : List Entry). z ++ each f k) (h k (omega arith)) ∙ each_none f k (λ c l. h c (omega arith))

each-only : (f : ℕ → List Entry) (b k : ℕ) → b < k → ((c : ℕ) → c < k → (c ≡ b → ⊥) → f c ≡ []) → each f k ≡ f b
each-only f b zero l h = absurd (omega arith)
each-only f b (suc k) l h = elim (cases_eq k b) [
  | inl e ↦ ap (λ (z : List Entry). f k ++ z) (each_none f k (λ c m. h c (omega arith) (λ z. omega arith))) ∙ append_none (f k) ∙ ap f e
  | inr e ↦ ap (λ (z : List Entry). z ++ each f k) (h k (omega arith) e) ∙ each-only f b k (omega arith) (λ c m. h c (omega arith))
]

pub leads-at : (t : Table) → Lawful t → (x : Entry) (b : ℕ) → b < connections t → x.place ≡ stations t + b → leads t x ≡ leads_by t x b
leads-at t law x b l e = each-only (leads_by t x) b (connections t) l none
  where
    none : (c : ℕ) → c < connections t → (c ≡ b → ⊥) → leads_by t x c ≡ []
    none c m ne =
        let off : eqb x.place (stations t + c) ≡ false = ne_eqb x.place (stations t + c) (λ z. ne (omega arith)) in
        let z0 : ride_by t x c ≡ [] = cond-false (eqb x.place (stations t + c)) _ _ off in
        let z1 : stay_by t x c ≡ [] = cond-false _ _ _ (and_left (eqb x.place (stations t + c)) _ off) in
        let z2 : change_by t x c ≡ [] = cond-false ((at t c).runs && eqb x.place (at t c).start.0) _ _ (and_right (at t c).runs (eqb x.place (at t c).start.0) (ne_eqb x.place (at t c).start.0 (λ z. omega (arith, (law.each c m).start_known)))) in
        ap (λ (z : List Entry). z ++ (stay_by t x c ++ change_by t x c)) z0 ∙ ap (λ (z : List Entry). z ++ change_by t x c) z1 ∙ z2
