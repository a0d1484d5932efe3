-- What code that looks at rows may rest on, and what it has found.
use Rattle.std.proofs.Common.{◌≡◌, ℕ, ◌<◌, ◌≤◌, Bool, true, false, cond, eqb, leb, List, Some, None, Option, Result, sym, refl, subst, ⊎_elim, arith}
use Rattle.std.proofs.lemmas.Bool.{cases_lt, leb-false}
use Rattle.refusals.specs.declared.refusal.Refusal.{Refusal}
use Rattle.timetable.specs.declared.label.Label.{Label}
use Rattle.timetable.specs.declared.leg.Leg.{Leg}
use Rattle.timetable.specs.declared.pair.Pair.{Pair}
use Rattle.timetable.specs.Table.{Table, Lawful, stations}
use Rattle.timetable.specs.Labels.{ranks}
use Rattle.timetable.specs.Rows.{head, entry, Rows}
use Rattle.answers.specs.Foreign.{Reached, late, far, AllOwn}
use Rattle.answers.specs.Chains.{JourneyRow}
use Rattle.answers.specs.Promises.{asked, Arrived, Profiled, Journeyed}
use Rattle.answers.specs.Subject.{ArriveTold, ProfileTold, JourneyTold}
use Rattle.answers.specs.Rowwise.{view_of, FirstPair, now, next}
use Rattle.answers.proofs.Outdone.{found_now, found-next}
use Rattle.answers.proofs.Telling.{arrive_told, profile_told}
use Rattle.answers.proofs.ChainTold.{journey_told}

not_refused : (b : Bool) (x : Option Refusal) (r : Refusal) → cond b (Some r) x ≡ None → (b ≡ false) × (x ≡ None)
not_refused true x r e = let z : ◌≡◌ {A = ℕ} 0 1 = cc in absurd (omega arith)
not_refused false x r e = (refl, e)

module _ (t : Table) (law : Lawful t) (s m v len : ℕ) where
  pub minute_asked : (n : ℕ) → asked t s m v n len ≡ None → n < t.period
  minute_asked n e =
      let x = not_refused (leb (stations t) v) _ _ e in
      let y = not_refused (eqb v s) _ _ x.1 in
      leb-false t.period n (not_refused (leb t.period n) _ _ y.1).0

module _ (t : Table) (law : Lawful t) (m : ℕ) (memory : List Label) (v : ℕ) (own : AllOwn t m memory v) where
  -- the row that was found is that of arrive's pair
  pub journey_row : (n i k : ℕ) → n < t.period → FirstPair (view_of t m v) memory n i k → JourneyRow t m memory v n i k
  journey_row n i k h (now f e) = subst (JourneyRow t m memory v n i) (sym e) (found_now t law m memory v own n i f.chosen f.late_enough f.first)
  journey_row n i k h (next none f e) = subst (JourneyRow t m memory v n i) (sym e) (found-next t law m memory v own n i f.chosen h none (λ j l c. f.first j l c (omega arith)))

  -- its moments are small
  pub row_small : (i : ℕ) → i < m → Reached t memory v i → ((head t memory i).minute < t.period) × ((entry t memory i v).minute ≤ 400000000)
  row_small i h r = (⊎_elim (λ k. k) (λ k. absurd (own i h (late k))) (cases_lt (head t memory i).minute t.period), ⊎_elim (λ k. absurd (own i h (far r k))) (λ k. k) (cases_lt 400000000 (entry t memory i v).minute))

-- ---- as many rows as the search has ranks

module _ (t : Table) (law : Lawful t) (s m v : ℕ) (memory : List Label) (rows : Rows t s memory) (all : m ≡ ranks t s) where
  pub arrive_searched : (n : ℕ) (r : Result Pair Refusal) → Arrived t s m memory v n r → ArriveTold t s memory v n r
  arrive_searched n r h = arrive_told t law s v n memory r rows (subst (λ (k : ℕ). Arrived t s k memory v n r) all h)

  pub profile_searched : (out out' : List Pair) (r : Result ℕ Refusal) → Profiled t s m memory v out r out' → ProfileTold t s memory v out r out'
  profile_searched out out' r h = profile_told t law s v memory out out' r rows (subst (λ (k : ℕ). Profiled t s k memory v out r out') all h)

  pub journey_searched : (n : ℕ) (out out' : List Leg) (r : Result ℕ Refusal) → Journeyed t s m memory v n out r out' → JourneyTold t s memory v n out r out'
  journey_searched n out out' r h = journey_told t law s v n memory out out' r rows (subst (λ (k : ℕ). Journeyed t s k memory v n out r out') all h)
