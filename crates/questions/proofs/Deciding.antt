-- Each way in which a label gives another is decided by one test.
use Rattle.std.proofs.Common.{◌≡◌, ℕ, ◌+◌, ◌<◌, true, false, eqb, ◌⊎◌, MatchBool, sym, refl, ap, ◌∙◌, inl, inr, arith}
use Rattle.std.proofs.lemmas.Bool.{cases_Bool, eqb-true, eqb-false}
use Rattle.timetable.specs.declared.connection.Connection.{Connection}
use Rattle.timetable.specs.Table.{Table, at, connections, transfer, ahead, stand, next_departure}
use Rattle.timetable.specs.Labels.{connection_place, Gives, by_ride, by_stay, by_change}
use Rattle.questions.specs.Giving.{NoRide, NoStay, NoChange}

when_equal : (a b : ℕ) (P Q : Type 0) → (a ≡ b → P) → ((a ≡ b → ⊥) → Q) → MatchBool (eqb a b) P Q
when_equal a b P Q f h = on (cases_Bool (eqb a b))
  where
    on : (eqb a b ≡ true) ⊎ (eqb a b ≡ false) → MatchBool (eqb a b) P Q
    on (inl e) = rw e (f (eqb-true a b e))
    on (inr e) = rw e (h (eqb-false a b e))

module _ (t : Table) (q n p n' c : ℕ) (x : Connection) (is : x ≡ at t c) where
  pub ride_decided : (r : ℕ) → c < connections t → q ≡ connection_place t c → p ≡ x.end.0 → r ≡ x.ride → MatchBool (eqb n' (n + r)) (Gives t q n p n') (NoRide t q n p n')
  ride_decided r h e a k =
      let l : r ≡ (at t c).ride = k ∙ ap (λ (y : Connection). y.ride) is in
      when_equal n' (n + r) (Gives t q n p n') (NoRide t q n p n')
      (λ m. by_ride c h e (a ∙ ap (λ (y : Connection). y.end.0) is) (m ∙ ap (λ (y : ℕ). n + y) l))
      (λ f d i j b m. f (m ∙ ap (λ (y : ℕ). n + y) (ap (λ (y : ℕ). (at t y).ride) (let s : d ≡ c = omega arith in s) ∙ sym l)))

  module _ (e : q ≡ connection_place t c) (z : Connection) (next : z ≡ at t (c + 1)) where
    pub stay_decided : (r s : ℕ) → c + 1 < connections t → p ≡ connection_place t (c + 1) → z.train.0 ≡ x.train.0 → z.runs ≡ true → r ≡ x.ride → s ≡ ahead t.period (x.departure + r) z.departure → MatchBool (eqb n' (n + r + s)) (Gives t q n p n') (NoStay t q n p n')
    stay_decided r s b k train runs f g =
        let ride : r ≡ (at t c).ride = f ∙ ap (λ (y : Connection). y.ride) is in
        let waits : s ≡ stand t c (c + 1) = rw (← ride, ← is, ← next) g in
        let sum : n + r + s ≡ n + (at t c).ride + stand t c (c + 1) = ap (λ (y : ℕ). n + y + s) ride ∙ ap (λ (y : ℕ). n + (at t c).ride + y) waits in
        when_equal n' (n + r + s) (Gives t q n p n') (NoStay t q n p n')
        (λ m. by_stay c (c + 1)
        (record { next = refl; there = omega arith; same_train = ap (λ (y : Connection). y.train.0) (sym is) ∙ sym train ∙ ap (λ (y : Connection). y.train.0) next })
        (ap (λ (y : Connection). y.runs) (sym next) ∙ runs) e (omega arith) (m ∙ sum))
        (λ u d i j o a v m.
        let y : d ≡ c = omega arith in
        let w : i ≡ c + 1 = omega (arith, j.next) in
        u ((rw (y, w) at m) ∙ sym sum))

  module _ (h : c < connections t) (e : p ≡ connection_place t c) where
    pub change_decided : (k w : ℕ) → q ≡ x.start.0 → x.runs ≡ true → k ≡ transfer t x.start.0 → w ≡ ahead t.period (n + k) x.departure → MatchBool (eqb n' ((n + k) + w)) (Gives t q n p n') (NoChange t q n p n')
    change_decided k w starts runs f g =
        let wait : k ≡ transfer t q = f ∙ ap (transfer t) (sym starts) in
        let waits : w ≡ ahead t.period (n + transfer t q) (at t c).departure = rw (← wait, ← is) g in
        let sum : (n + k) + w ≡ next_departure t c (n + transfer t q) = ap (λ (y : ℕ). (n + y) + w) wait ∙ ap (λ (y : ℕ). (n + transfer t q) + y) waits in
        when_equal n' ((n + k) + w) (Gives t q n p n') (NoChange t q n p n')
        (λ m. by_change c h (ap (λ (y : Connection). y.runs) (sym is) ∙ runs) (starts ∙ ap (λ (y : Connection). y.start.0) is) e (m ∙ sum))
        (λ u d i o a v m. let y : d ≡ c = omega arith in u ((rw y at m) ∙ sym sum))
