-- The law of the three questions: from what they promise of rows as they stand, where the rows are those of the book's
-- source and the memory lent is the front of one that has them.
use Rattle.std.proofs.Common.{◌≡◌, ℕ, ◌*◌, ◌<◌, ◌≤◌, eqb, ltb, leb, List, ◌++◌, length, drop, Some, None, Ok, Err, Option, Result, refl, ap, subst, subst₂, inl, inr, ⊎_elim, arith, MatchOption}
use Rattle.std.proofs.lemmas.List.{length-append, length-drop}
use Rattle.std.proofs.lemmas.Bool.{cases_lt, ltb-false}
use Rattle.refusals.specs.declared.refusal.Refusal.{Refusal}
use Rattle.refusals.specs.declared.refusal.Refusal.TheVariants.{NoSearch}
use Rattle.timetable.specs.declared.label.Label.{Label}
use Rattle.timetable.specs.declared.leg.Leg.{Leg}
use Rattle.timetable.specs.declared.pair.Pair.{Pair}
use Rattle.timetable.specs.Table.{Table, stations}
use Rattle.timetable.specs.Labels.{ranks}
use Rattle.timetable.specs.Noticed.{noticed}
use Rattle.timetable.specs.Rows.{Rows, width}
use Rattle.notices.specs.declared.notice.Notice.{Notice}
use Rattle.notices.specs.Slots.{found}
use Rattle.notices.proofs.Entering.{past}
use Rattle.questions.specs.declared.standing.Standing.{Standing}
use Rattle.answers.specs.Promises.{rows_refusal, minute_refusal, target_refusal, asked, asked_profile, Arrived, Profiled, Journeyed}
use Rattle.answers.specs.Subject.{ArriveTold, ProfileTold, JourneyTold}
use Rattle.law.specs.Book.{Book, in_force}
use Rattle.law.specs.Lines.{ArriveLine, ProfileLine, JourneyLine}
use Rattle.law.specs.Agreement.{Agrees, Stands}
use Rattle.law.proofs.Fronts.{rows_front}
use Rattle.law.proofs.Reports.{same_table}

-- ---- a memory that is too short for the rows is refused

module _ (t : Table) (s m v len : ℕ) where
  past_target : (rest : Option Refusal) → target_refusal t s v rest ≡ None → rest ≡ None
  past_target rest e = (past (eqb v s) _ _ (past (leb (stations t) v) _ _ e).1).1

  long_enough : rows_refusal t m len ≡ None → m * width t ≤ len
  long_enough e = ltb-false len (m * width t) (past (ltb len (m * width t)) _ _ e).0

  asked_long : (n : ℕ) → asked t s m v n len ≡ None → m * width t ≤ len
  asked_long n e = long_enough (past (leb t.period n) _ _ (past_target (minute_refusal t m n len) e)).1

  asked_profile_long : asked_profile t s m v len ≡ None → m * width t ≤ len
  asked_profile_long e = long_enough (past_target (rows_refusal t m len) e)

-- ---- and then the rows are not looked at

module _ (t : Table) (s v : ℕ) (memory : List Label) (short : length memory < ranks t s * width t) where
  arrive_short : (n : ℕ) (r : Result Pair Refusal) → Arrived t s (ranks t s) memory v n r → ArriveTold t s memory v n r
  arrive_short n (Ok x) p = absurd (omega (arith, asked_long t s (ranks t s) v (length memory) n p.0))
  arrive_short n (Err e) (inl p) = inl p
  arrive_short n (Err e) (inr p) = absurd (omega (arith, asked_long t s (ranks t s) v (length memory) n p.0))

  profile_short : (out out' : List Pair) (r : Result ℕ Refusal) → Profiled t s (ranks t s) memory v out r out' → ProfileTold t s memory v out r out'
  profile_short out out' (Ok k) p = absurd (omega (arith, asked_profile_long t s (ranks t s) v (length memory) p.0))
  profile_short out out' (Err e) (same, inl p) = (same, inl p)
  profile_short out out' (Err e) (same, inr p) = absurd (omega (arith, asked_profile_long t s (ranks t s) v (length memory) p.0))

  journey_short : (n : ℕ) (out out' : List Leg) (r : Result ℕ Refusal) → Journeyed t s (ranks t s) memory v n out r out' → JourneyTold t s memory v n out r out'
  journey_short n out out' (Ok k) p = absurd (omega (arith, asked_long t s (ranks t s) v (length memory) n p.0))
  journey_short n out out' (Err e) (same, inl p) = (same, inl p)
  journey_short n out out' (Err e) (same, inr p) = absurd (omega (arith, asked_long t s (ranks t s) v (length memory) n p.0))

-- ---- the lines

-- a question's answer by the rows as they stand, P, is also what a search's rows tell, Q
module _ (t : Table) (b : Book) (memory rest : List Label) (slots : List (Option Notice)) (x : Standing) (P : Table → ℕ → ℕ → Type 0) (Q : Table → ℕ → Type 0)
    (answer : P (noticed t (found slots)) x.source.0 x.rows)
    (told : Rows (noticed t (found slots)) x.source.0 memory → x.rows ≡ ranks (noticed t (found slots)) x.source.0 → Q (noticed t (found slots)) x.source.0)
    (unread : (u : Table) (s : ℕ) → length memory < ranks u s * width u → P u s (ranks u s) → Q u s) where
  by_front : (u : Table) (s : ℕ) → P u s x.rows → (Rows u s memory → x.rows ≡ ranks u s → Q u s) → x.rows ≡ ranks u s → Rows u s (memory ++ rest) → Q u s
  by_front u s p q all rows =
      ⊎_elim (λ short. unread u s short (subst (P u s) all p)) (λ long. q (rows_front u s memory rest long rows) all) (cases_lt (length memory) (ranks u s * width u))

  by_book : (s : ℕ) → ((z : ℕ) → found slots z ≡ b.says z) → (x.source.0 ≡ s) × (x.rows ≡ ranks (in_force t b) s) × Rows (in_force t b) s (memory ++ rest) → Q (in_force t b) s
  by_book s says w =
      let A : Table → ℕ → Type 0 = λ u k. P u k x.rows × (Rows u k memory → x.rows ≡ ranks u k → Q u k) in
      let h = subst₂ A (same_table t b slots says) w.0 (answer, told) in
      by_front (in_force t b) s h.0 h.1 w.1 w.2

  pub line : (source : Option ℕ) (N : Type 0) → ((z : ℕ) → found slots z ≡ b.says z) → Stands (in_force t b) source (Some x) (memory ++ rest) → MatchOption source N (Q (in_force t b))
  line None N says w = absurd w
  line (Some s) N says w = by_book s says w

-- ---- an output keeps its length

written-length : {X : Type 0} (k : ℕ) (xs out out' : List X) → k ≡ length xs → k ≤ length out → out' ≡ xs ++ drop k out → length out' ≡ length out
written-length k xs out out' e l w = omega (arith, ap length w, length-append xs (drop k out), length-drop k out)

module _ (t : Table) (s m v : ℕ) (memory : List Label) where
  profile_length : (out out' : List Pair) (r : Result ℕ Refusal) → Profiled t s m memory v out r out' → length out' ≡ length out
  profile_length out out' (Ok k) p = written-length k p.1.pairs out out' p.1.number p.1.fits p.1.written
  profile_length out out' (Err e) p = ap length p.0

  journey_length : (n : ℕ) (out out' : List Leg) (r : Result ℕ Refusal) → Journeyed t s m memory v n out r out' → length out' ≡ length out
  journey_length n out out' (Ok k) p = written-length k p.1.legs out out' p.1.number p.1.fits p.1.written
  journey_length n out out' (Err e) p = ap length p.0

-- ---- of a planner and a memory that agree with a book

module _ (t : Table) (b : Book) (memory rest : List Label) (slots : List (Option Notice)) (standing : Option Standing) (a : Agrees t b slots standing (memory ++ rest)) (v : ℕ) where
  module _ (x : Standing) (is : standing ≡ Some x) where
    stands : Stands (in_force t b) b.source (Some x) (memory ++ rest)
    stands = subst (λ (o : Option Standing). Stands (in_force t b) b.source o (memory ++ rest)) is a.search

    pub arrive_line : (n : ℕ) (r : Result Pair Refusal) → Arrived (noticed t (found slots)) x.source.0 x.rows memory v n r
        → (Rows (noticed t (found slots)) x.source.0 memory → x.rows ≡ ranks (noticed t (found slots)) x.source.0 → ArriveTold (noticed t (found slots)) x.source.0 memory v n r)
        → ArriveLine t b memory v n r
    arrive_line n r p q =
        line t b memory rest slots x (λ u s m. Arrived u s m memory v n r) (λ u s. ArriveTold u s memory v n r) p q (λ u s short h. arrive_short u s v memory short n r h) b.source _ a.says stands

    pub profile_line : (out out' : List Pair) (r : Result ℕ Refusal) → Profiled (noticed t (found slots)) x.source.0 x.rows memory v out r out'
        → (Rows (noticed t (found slots)) x.source.0 memory → x.rows ≡ ranks (noticed t (found slots)) x.source.0 → ProfileTold (noticed t (found slots)) x.source.0 memory v out r out')
        → ProfileLine t b memory v out r out'
    profile_line out out' r p q = (
      profile_length (noticed t (found slots)) x.source.0 x.rows v memory out out' r p,
      line t b memory rest slots x (λ u s m. Profiled u s m memory v out r out') (λ u s. ProfileTold u s memory v out r out') p q (λ u s short h. profile_short u s v memory short out out' r h) b.source _ a.says stands,
    )

    pub journey_line : (n : ℕ) (out out' : List Leg) (r : Result ℕ Refusal) → Journeyed (noticed t (found slots)) x.source.0 x.rows memory v n out r out'
        → (Rows (noticed t (found slots)) x.source.0 memory → x.rows ≡ ranks (noticed t (found slots)) x.source.0 → JourneyTold (noticed t (found slots)) x.source.0 memory v n out r out')
        → JourneyLine t b memory v n out r out'
    journey_line n out out' r p q = (
      journey_length (noticed t (found slots)) x.source.0 x.rows v memory n out out' r p,
      line t b memory rest slots x (λ u s m. Journeyed u s m memory v n out r out') (λ u s. JourneyTold u s memory v n out r out') p q (λ u s short h. journey_short u s v memory short n out out' r h) b.source _ a.says stands,
    )
