use Rattle.std.proofs.Common.{◌≡◌, ℕ, ◌<◌, List, length, Some, None, Option, MatchOption, Ok, Err, subst, inr}
use Rattle.std.specs.Option.{ok_or}
use Rattle.std.proofs.lemmas.Result.{err_from_is_err_and}
use Rattle.refusals.specs.declared.refusal.Refusal.{Refusal}
use Rattle.refusals.specs.declared.refusal.Refusal.TheVariants.{Unreachable}
use Rattle.timetable.specs.declared.label.Label.{Label}
use Rattle.timetable.specs.Table.{Table, Lawful}
use Rattle.answers.specs.Foreign.{AllOwn}
use Rattle.answers.specs.Promises.{RowsRefused, foreign, unreached}
use Rattle.answers.specs.Rowwise.{view_of, ChosenRow, FirstPair}
use Rattle.answers.proofs.Outdone.{none_chosen}
use Rattle.answers.proofs.Seen.{minute_asked, journey_row}
use Rattle.questions.specs.Finding.{FoundRow}
use Rattle.questions.specs.declared.choosing.Hit.{Hit}
use Rattle.questions.specs.declared.rows.LabelRows.{LabelRows}
use Rattle.questions.proofs.Checked.{over, first_foreign, all_own}
use Rattle.questions.proofs.asking.Question.find.Goals as goal

module _ (t : Table) (law : Lawful t) (m : ℕ) (memory : List Label) (v n : ℕ) (r : LabelRows) (e : r.view ≡ view_of t m v) (q : r.memory.now ≡ memory) (own : AllOwn t m memory v) where
  found : n < t.period → (h : Hit) → FirstPair r.view r.memory.now n h.row h.periods → FoundRow t m memory v n (record { rows = r; hit = h })
  found l h f =
      record { own = own; view = e; read = q; row = journey_row t law m memory v own n h.row h.periods l (over t m memory v r e q (λ w ls. FirstPair w ls n h.row h.periods) f) }

  nowhere : ((j : ℕ) → ChosenRow r.view r.memory.now j → ⊥) → (z : Refusal) → z ≡ Unreachable v → RowsRefused t m memory v z
  nowhere f z p = unreached own (none_chosen t law m memory v own (over t m memory v r e q (λ w ls. (j : ℕ) → ChosenRow w ls j → ⊥) f)) p

-- what was found, or why nothing was
if_some : (o : Option Hit) (z : Refusal) (h : Hit) (P : Type 0) (Q : Hit → Type 0) → MatchOption o P Q → Ok h ≡ ok_or o z → Q h
if_some None z h P Q m e = absurd (cc)
if_some (Some x) z h P Q m e = let s : x ≡ h = cc in subst Q s m

if_none : (o : Option Hit) (z e : Refusal) (P : Type 0) (Q : Hit → Type 0) → MatchOption o P Q → Err e ≡ ok_or o z → P × (e ≡ z)
if_none None z e P Q m q = (m, cc)
if_none (Some x) z e P Q m q = absurd (cc)

pub returns-in_err-check : goal.returns-in_err-check
returns-in_err-check g c =
    let a = c.in_ok-rows.ensures in
    let p = err_from_is_err_and c.from_residual-in_err-check.result c.from_residual-in_err-check.ensures.1 in
    let b = c.in_err-check.ensures in
    rw (p.1, p.2) (inr (a.0, foreign b.0 (first_foreign (g.T.Means.meaning c.args.self.now.timetable.now) c.args.self.now.standing.rows c.args.self.now.memory.now c.args.self.now.target.0 c.in_ok-rows.rows a.1 a.2 b.0 b.1) b.2))

pub returns-in_err-hit : goal.returns-in_err-hit
returns-in_err-hit g c =
    let t = g.T.Means.meaning c.args.self.now.timetable.now in
    let law = g.T.Means.lawful c.args.self.now.timetable.now in
    let a = c.in_ok-rows.ensures in
    let p = err_from_is_err_and c.from_residual-in_err-hit.result c.from_residual-in_err-hit.ensures.1 in
    let own = all_own t c.args.self.now.standing.rows c.args.self.now.memory.now c.args.self.now.target.0 c.in_ok-rows.rows a.1 a.2 c.in_ok-check.ensures in
    let y = if_none _ _ _ _ _ c.first_pair.ensures c.in_err-hit.ensures.value in
    rw (p.1, p.2) (inr (a.0, nowhere t law c.args.self.now.standing.rows c.args.self.now.memory.now c.args.self.now.target.0 c.args.minute c.in_ok-rows.rows a.1 a.2 own y.0 c.in_err-hit.field-0.0 y.1))

pub returns : goal.returns
returns g c =
    let t = g.T.Means.meaning c.args.self.now.timetable.now in
    let law = g.T.Means.lawful c.args.self.now.timetable.now in
    let a = c.in_ok-rows.ensures in
    let own = all_own t c.args.self.now.standing.rows c.args.self.now.memory.now c.args.self.now.target.0 c.in_ok-rows.rows a.1 a.2 c.in_ok-check.ensures in
    let y = if_some _ _ _ _ _ c.first_pair.ensures c.in_ok-hit.ensures.value in
    (a.0, found t law c.args.self.now.standing.rows c.args.self.now.memory.now c.args.self.now.target.0 c.args.minute c.in_ok-rows.rows a.1 a.2 own (minute_asked t law c.args.self.now.standing.source.0 c.args.self.now.standing.rows c.args.self.now.target.0 (length c.args.self.now.memory.now) c.args.minute a.0) c.in_ok-hit.hit y)
