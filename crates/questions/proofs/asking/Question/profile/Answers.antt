use Rattle.std.proofs.Common.{◌≡◌, ℕ, ◌<◌, ◌≤◌, List, ◌++◌, length, drop, sym, refl, ap, ◌∙◌, inr, arith}
use Rattle.std.proofs.lemmas.Result.{err_from_is_err_and}
use Rattle.refusals.specs.declared.refusal.Refusal.TheVariants.{Unreachable, ShortAnswer}
use Rattle.timetable.specs.declared.label.Label.{Label}
use Rattle.timetable.specs.declared.pair.Pair.{Pair}
use Rattle.timetable.specs.Table.{Table, Lawful}
use Rattle.answers.specs.Foreign.{AllOwn}
use Rattle.answers.specs.Promises.{foreign, unreached, ProfileRefused, rows, short, ProfileGiven}
use Rattle.answers.specs.Rowwise.{view_of, Listed}
use Rattle.answers.proofs.Outdone.{none_listed, profile, same_list}
use Rattle.questions.proofs.Checked.{over, first_foreign, all_own}
use Rattle.questions.proofs.asking.Question.profile.Given.{Over}
use Rattle.questions.proofs.asking.Question.profile.Goals.{After-count_pairs-pairs}
use Rattle.questions.proofs.asking.Question.profile.Goals as goal

-- the pairs of the rows that were checked, at their number
module _ (g : Over) (c : After-count_pairs-pairs g) where
  abbrev t : Table
  t = g.T.Means.meaning c.args.self.now.timetable.now

  abbrev m : ℕ
  m = c.args.self.now.standing.rows

  abbrev memory : List Label
  memory = c.args.self.now.memory.now

  abbrev v : ℕ
  v = c.args.self.now.target.0

  abbrev ps : List Pair
  ps = c.count_pairs-pairs.ensures.0

  law : Lawful t
  law = g.T.Means.lawful c.args.self.now.timetable.now

  own : AllOwn t m memory v
  own = all_own t m memory v c.in_ok-rows.rows c.in_ok-rows.ensures.1 c.in_ok-rows.ensures.2 c.in_ok-check.ensures

  listed : Listed (view_of t m v) memory m ps
  listed = over t m memory v c.in_ok-rows.rows c.in_ok-rows.ensures.1 c.in_ok-rows.ensures.2 (λ w ls. Listed w ls w.rows ps) c.count_pairs-pairs.ensures.1

  nowhere : (room : ℕ) → length ps ≡ 0 → ProfileRefused t m memory v room (Unreachable v)
  nowhere room z = rows (unreached own (none_listed t law m memory v own listed z) refl)

  too_short : (room k : ℕ) → room < k → k ≡ length ps → ProfileRefused t m memory v room (ShortAnswer k)
  too_short room k h z = short ps own (profile t law m memory v own listed) (omega arith) (ap ShortAnswer z)

  given : (k : ℕ) (out out' qs : List Pair) → Listed c.in_ok-rows.rows.view c.in_ok-rows.rows.memory.now c.in_ok-rows.rows.view.rows qs → (k ≡ 0 → ⊥) → k ≤ length out → k ≡ length ps → out' ≡ qs ++ drop (length qs) out → ProfileGiven t m memory v k out out'
  given k out out' qs j n f z o =
      let s = same_list c.in_ok-rows.rows.view c.in_ok-rows.rows.memory.now j c.count_pairs-pairs.ensures.1 in
      record { own = own; pairs = ps; profile = profile t law m memory v own listed; some = omega arith; number = z; fits = f; written = o ∙ ap (λ (y : List Pair). y ++ drop (length y) out) s ∙ ap (λ (y : ℕ). ps ++ drop y out) (sym z) }

pub returns-in_err-check : goal.returns-in_err-check
returns-in_err-check g c =
    let a = c.in_ok-rows.ensures in
    let p = err_from_is_err_and c.from_residual-in_err-check.result c.from_residual-in_err-check.ensures.1 in
    let b = c.in_err-check.ensures in
    rw (p.1, p.2) (refl, inr (a.0, rows (foreign b.0 (first_foreign (g.T.Means.meaning c.args.self.now.timetable.now) c.args.self.now.standing.rows c.args.self.now.memory.now c.args.self.now.target.0 c.in_ok-rows.rows a.1 a.2 b.0 b.1) b.2)))

pub returns-then-pairs-eq0 : goal.returns-then-pairs-eq0
returns-then-pairs-eq0 g c = (refl, inr (c.in_ok-rows.ensures.0, nowhere g (goal.at.returns-then-pairs-eq0 g c).After-count_pairs-pairs (length c.args.out.now) (sym c.count_pairs-pairs.ensures.2 ∙ c.if-pairs-eq0.true)))

pub returns-in_err-enough : goal.returns-in_err-enough
returns-in_err-enough g c =
    let p = err_from_is_err_and c.from_residual-in_err-enough.result c.from_residual-in_err-enough.ensures.1 in
    let b = c.in_err-enough.ensures in
    rw (p.1, p.2, b.1) (refl, inr (c.in_ok-rows.ensures.0, too_short g (goal.at.returns-in_err-enough g c).After-count_pairs-pairs (length c.args.out.now) c.count_pairs-pairs.result b.0 c.count_pairs-pairs.ensures.2))

pub returns : goal.returns
returns g c =
    let o = c.write_pairs.ensures in
    (c.in_ok-rows.ensures.0, given g (goal.at.returns g c).After-count_pairs-pairs c.count_pairs-pairs.result c.args.out.now c.write_pairs.new.out o.0 o.1 c.if-pairs-eq0.false c.in_ok-enough.ensures c.count_pairs-pairs.ensures.2 o.2)
