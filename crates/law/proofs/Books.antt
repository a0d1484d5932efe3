-- Agreement pins the book, and the law's lines have no refusal for rows that no search wrote.
use Rattle.std.proofs.Common.{◌≡◌, ℕ, ◌*◌, Bool, true, false, cond, eqb, ltb, leb, List, length, Some, None, Err, Option, Result, sym, refl, ap, ◌∙◌, inl, inr, MatchOption}
use Rattle.refusals.specs.declared.refusal.Refusal.{Refusal}
use Rattle.refusals.specs.declared.refusal.Refusal.TheVariants.{NoSearch, NoTarget, TargetIsSource, ShortRows, ForeignRows}
use Rattle.timetable.specs.declared.label.Label.{Label}
use Rattle.timetable.specs.declared.leg.Leg.{Leg}
use Rattle.timetable.specs.declared.pair.Pair.{Pair}
use Rattle.timetable.specs.Table.{Table, stations}
use Rattle.timetable.specs.Labels.{ranks}
use Rattle.timetable.specs.Rows.{width}
use Rattle.questions.specs.declared.standing.Standing.{Standing}
use Rattle.answers.specs.Promises.{asked, asked_profile}
use Rattle.answers.specs.Subject.{ArriveTold, ProfileTold, JourneyTold}
use Rattle.law.specs.Book.{in_force}
use Rattle.law.specs.Agreement.{Stands}
use Rattle.law.specs.Theorems.{OneBook, RowsInFront, NeverForeign}
use Rattle.law.proofs.Fronts.{rows_front, rows_longer}

one_source : (t t' : Table) (memory : List Label) (s s' : Option ℕ) (standing : Option Standing) → Stands t s standing memory → Stands t' s' standing memory → s ≡ s'
one_source t t' memory None None standing w w' = refl
one_source t t' memory None (Some s') None w w' = absurd w'
one_source t t' memory None (Some s') (Some x) w w' = absurd w
one_source t t' memory (Some s) None None w w' = absurd w
one_source t t' memory (Some s) None (Some x) w w' = absurd w'
one_source t t' memory (Some s) (Some s') None w w' = absurd w
one_source t t' memory (Some s) (Some s') (Some x) w w' = ap Some (sym w.0 ∙ w'.0)

pub one_book : OneBook
one_book t b b' slots standing memory a a' = (λ z. sym (a.says z) ∙ a'.says z, one_source _ _ memory b.source b'.source standing a.search a'.search)

pub rows_in_front : RowsInFront
rows_in_front t s memory rest = (rows_front t s memory rest, rows_longer t s memory rest)

-- ---- no foreign rows

not_first : (b : Bool) (e : Refusal) (rest : Option Refusal) (i : ℕ) → (e ≡ ForeignRows i → ⊥) → (rest ≡ Some (ForeignRows i) → ⊥) → cond b (Some e) rest ≡ Some (ForeignRows i) → ⊥
not_first true e rest i h k q = h (cc)
not_first false e rest i h k q = k q

module _ (t : Table) (s m v len i : ℕ) where
  not_rows : cond (ltb len (m * width t)) (Some (ShortRows (m * width t))) None ≡ Some (ForeignRows i) → ⊥
  not_rows = not_first (ltb len (m * width t)) _ None i (λ q. cc) (λ q. cc)

  not_target : (rest : Option Refusal) → (rest ≡ Some (ForeignRows i) → ⊥) → cond (leb (stations t) v) (Some (NoTarget v)) (cond (eqb v s) (Some (TargetIsSource v)) rest) ≡ Some (ForeignRows i) → ⊥
  not_target rest h = not_first (leb (stations t) v) _ _ i (λ q. cc) (not_first (eqb v s) _ _ i (λ q. cc) h)

  not_asked : (n : ℕ) → asked t s m v n len ≡ Some (ForeignRows i) → ⊥
  not_asked n = not_target _ (not_first (leb t.period n) _ _ i (λ q. cc) not_rows)

  not_asked_profile : asked_profile t s m v len ≡ Some (ForeignRows i) → ⊥
  not_asked_profile = not_target _ not_rows

module _ (t : Table) (memory : List Label) (v n i : ℕ) where
  not_arrive : (s : ℕ) → ArriveTold t s memory v n (Err (ForeignRows i)) → ⊥
  not_arrive s (inl q) = not_asked t s (ranks t s) v (length memory) i n q
  not_arrive s (inr q) = let e = q.1 in cc

  not_profile : (s : ℕ) (out out' : List Pair) → ProfileTold t s memory v out (Err (ForeignRows i)) out' → ⊥
  not_profile s out out' (_, inl q) = not_asked_profile t s (ranks t s) v (length memory) i q
  not_profile s out out' (_, inr (_, inl q)) = let e = q.0 in cc
  not_profile s out out' (_, inr (_, inr q)) = let e = q.3 in cc

  not_journey : (s : ℕ) (out out' : List Leg) → JourneyTold t s memory v n out (Err (ForeignRows i)) out' → ⊥
  not_journey s out out' (_, inl q) = not_asked t s (ranks t s) v (length memory) i n q
  not_journey s out out' (_, inr (_, inl q)) = let e = q.0 in cc
  not_journey s out out' (_, inr (_, inr q)) = let e = q.3 in cc

by_source : (source : Option ℕ) (N : Type 0) (Q : ℕ → Type 0) → (N → ⊥) → ((s : ℕ) → Q s → ⊥) → MatchOption source N Q → ⊥
by_source None N Q h k q = h q
by_source (Some s) N Q h k q = k s q

pub never_foreign : NeverForeign
never_foreign t b memory v n i = (
  by_source b.source _ (λ s. ArriveTold (in_force t b) s memory v n (Err (ForeignRows i))) none (not_arrive (in_force t b) memory v n i),
  λ out out' w. by_source b.source _ (λ s. ProfileTold (in_force t b) s memory v out (Err (ForeignRows i)) out') (λ q. none q.0) (λ s. not_profile (in_force t b) memory v n i s out out') w.1,
  λ out out' w. by_source b.source _ (λ s. JourneyTold (in_force t b) s memory v n out (Err (ForeignRows i)) out') (λ q. none q.0) (λ s. not_journey (in_force t b) memory v n i s out out') w.1,
)
  where
    none : {X : Type 0} → ◌≡◌ {A = Result X Refusal} (Err (ForeignRows i)) (Err NoSearch) → ⊥
    none q = cc
