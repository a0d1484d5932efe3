-- The legs that rows tell are pinned.
use Rattle.std.proofs.Common.{◌≡◌, ℕ, ◌<◌, ◌⊎◌, List, sym, ap, ◌∙◌, inl, inr, arith}
use native.Mathlib.Nat.{eq_of_mul-eq-mul_right}
use Rattle.std.proofs.lemmas.Bool.{cases_order}
use Rattle.timetable.specs.declared.label.Label.{Label}
use Rattle.timetable.specs.declared.leg.Leg.{Leg}
use Rattle.timetable.specs.Table.{Table, Lawful}
use Rattle.timetable.specs.Rows.{head}
use Rattle.answers.specs.Chains.{RowChain, HighestRow, JourneyRow, IsJourney}
use Rattle.answers.specs.Theorems.{JourneyPinned}
use Rattle.answers.proofs.Chained.{one_chain}
use Rattle.answers.proofs.Pinned.{arrive_pinned}

module _ (t : Table) (law : Lawful t) (m : ℕ) (memory : List Label) (v : ℕ) where
  -- one row is the highest that has a pair, moved on by one number of periods
  pub one_row : (d a i k j l : ℕ) → HighestRow t m memory v d a i k → HighestRow t m memory v d a j l → (i ≡ j) × (k ≡ l)
  one_row d a i k j l x y = by_order (cases_order i j)
    where
      by_order : (i ≡ j) ⊎ ((i < j) ⊎ (j < i)) → (i ≡ j) × (k ≡ l)
      by_order (inl e) = (e, eq_of_mul-eq-mul_right t.period law.period_low k l (omega (arith, ap (λ (z : ℕ). (head t memory z).minute) e, x.has.departs, y.has.departs)))
      by_order (inr (inl h)) = absurd (x.highest j l h y.there y.has)
      by_order (inr (inr h)) = absurd (y.highest i k h x.there x.has)

  pub one_journey_row : (n i k j l : ℕ) → JourneyRow t m memory v n i k → JourneyRow t m memory v n j l → (i ≡ j) × (k ≡ l)
  one_journey_row n i k j l x y =
      let q = arrive_pinned t m memory v n _ _ _ _ x.arrive y.arrive in
      one_row x.departure x.arrival i k j l x.highest (rw (q.0, q.1) y.highest)

  pub one_journey : (n : ℕ) (gs hs : List Leg) → IsJourney t m memory v n gs → IsJourney t m memory v n hs → gs ≡ hs
  one_journey n gs hs x y =
      let q = one_journey_row n _ _ _ _ x.of_row y.of_row in
      let c : RowChain t memory x.row v y.entries = rw q.0 y.chain in
      let e = one_chain t law memory x.row v x.entries y.entries x.chain c in
      x.legs_are ∙ rw (q.1, e) (sym y.legs_are)

pub journey_pinned : JourneyPinned
journey_pinned t law m memory v n gs hs x y = one_journey t law m memory v n gs hs x y
