use Rattle.std.proofs.Common.{◌≡◌, ℕ, ◌*◌, ◌<◌, ◌≤◌, ◌⊎◌, List, ◌++◌, map, length, drop, sym, refl, ap, ◌∙◌, inl, inr, arith}
use Rattle.std.proofs.lemmas.List.{length-map}
use Rattle.std.proofs.lemmas.Result.{err_from_is_err_and}
use Rattle.refusals.specs.declared.refusal.Refusal.{Refusal}
use Rattle.refusals.specs.declared.refusal.Refusal.TheVariants.{ForeignRows, ShortAnswer}
use Rattle.timetable.specs.declared.label.Label.{Label}
use Rattle.timetable.specs.declared.leg.Leg.{Leg}
use Rattle.timetable.specs.Table.{Table, Lawful}
use Rattle.journeys.specs.Search.{Entry}
use Rattle.journeys.specs.Trace.{legs_of}
use Rattle.answers.specs.Chains.{RowChain, IsJourney, leg_later}
use Rattle.answers.specs.Promises.{RowsRefused, JourneyRefused, rows, broken, short, JourneyGiven}
use Rattle.answers.proofs.Chained.{one_chain}
use Rattle.questions.specs.Finding.{FoundRow}
use Rattle.questions.specs.Steps.{NoChain}
use Rattle.questions.specs.declared.finding.Found.{Found}
use Rattle.questions.proofs.Reached.{period_is, later_small, from_memory, to_memory}
use Rattle.questions.proofs.asking.Question.journey.Goals as goal

module _ (t : Table) (law : Lawful t) (m : ℕ) (memory : List Label) (v n : ℕ) (f : Found) (x : FoundRow t m memory v n f) where
  abbrev later : ℕ
  later = f.hit.periods * f.rows.view.period

  no_way_back : (room : ℕ) → NoChain t f.rows.memory.now f.hit.row f.rows.view.target → JourneyRefused t m memory v n room (ForeignRows f.hit.row)
  no_way_back room h = broken f.hit.row x.own (record { periods = f.hit.periods; of_row = x.row; broken = λ es c. h es (from_memory t law m memory v n f x es c) }) refl

  module _ (es : List Entry) (c : RowChain t f.rows.memory.now f.hit.row f.rows.view.target es) where
    number : (k : ℕ) → k ≡ length (legs_of t es) → k ≡ length (map (leg_later later) (legs_of t es))
    number k e = e ∙ sym (length-map (legs_of t es) (leg_later later))

    told : IsJourney t m memory v n (map (leg_later later) (legs_of t es))
    told = record {
      row = f.hit.row;
      periods = f.hit.periods;
      of_row = x.row;
      entries = es;
      chain = to_memory t law m memory v n f x es c;
      legs_are = ap (λ (k : ℕ). map (leg_later k) (legs_of t es)) (period_is t law m memory v n f x);
    }

    too_short : (room k : ℕ) → k ≡ length (legs_of t es) → room < k → JourneyRefused t m memory v n room (ShortAnswer k)
    too_short room k e h = short (map (leg_later later) (legs_of t es)) x.own told (omega (arith, number k e)) (ap ShortAnswer (number k e))

    given : (k : ℕ) (out out' : List Leg) (fs : List Entry) → RowChain t f.rows.memory.now f.hit.row f.rows.view.target fs → k ≡ length (legs_of t es) → k ≤ length out → out' ≡ map (leg_later later) (legs_of t fs) ++ drop k out → JourneyGiven t m memory v n k out out'
    given k out out' fs d e h w = record {
      own = x.own;
      legs = map (leg_later later) (legs_of t es);
      journey = told;
      number = number k e;
      fits = h;
      written = w ∙ ap (λ (z : List Entry). map (leg_later later) (legs_of t z) ++ drop k out) (one_chain t law f.rows.memory.now f.hit.row f.rows.view.target fs es d c);
    }

refused : (P : Type 0) (t : Table) (m : ℕ) (memory : List Label) (v n room : ℕ) (e : Refusal) (Q : Type 0) → P ⊎ (Q × RowsRefused t m memory v e) → P ⊎ (Q × JourneyRefused t m memory v n room e)
refused P t m memory v n room e Q (inl h) = inl h
refused P t m memory v n room e Q (inr h) = inr (h.0, rows h.1)

pub returns-in_err-found : goal.returns-in_err-found
returns-in_err-found g c =
    let p = err_from_is_err_and c.from_residual.result c.from_residual.ensures.1 in
    rw (p.1, p.2) (refl, refused _ (g.T.Means.meaning c.args.self.now.timetable.now) c.args.self.now.standing.rows c.args.self.now.memory.now c.args.self.now.target.0 c.args.minute (length c.args.out.now) _ _ c.in_err-found.ensures)

pub returns-in_err-legs : goal.returns-in_err-legs
returns-in_err-legs g c =
    let p = err_from_is_err_and c.from_residual-in_err-legs.result c.from_residual-in_err-legs.ensures.1 in
    let z = c.in_err-legs.ensures in
    rw (p.1, p.2, z.1) (refl, inr (c.in_ok-found.ensures.0, no_way_back (g.T.Means.meaning c.args.self.now.timetable.now) (g.T.Means.lawful c.args.self.now.timetable.now) c.args.self.now.standing.rows c.args.self.now.memory.now c.args.self.now.target.0 c.args.minute c.in_ok-found.found c.in_ok-found.ensures.1 (length c.args.out.now) z.0))

pub write_legs-requires-clause-later : goal.write_legs-requires-clause-later
write_legs-requires-clause-later g c =
    let x = c.in_ok-found.ensures.1 in
    rw c.later.ensures (later_small (g.T.Means.meaning c.args.self.now.timetable.now) (g.T.Means.lawful c.args.self.now.timetable.now) c.args.self.now.standing.rows c.args.self.now.memory.now c.args.self.now.target.0 c.args.minute c.in_ok-found.found x)

pub returns-in_err-enough : goal.returns-in_err-enough
returns-in_err-enough g c =
    let p = err_from_is_err_and c.from_residual-in_err-enough.result c.from_residual-in_err-enough.ensures.1 in
    let y = c.in_ok-legs.ensures in
    let z = c.in_err-enough.ensures in
    rw (p.1, p.2, z.1) (refl, inr (c.in_ok-found.ensures.0, too_short (g.T.Means.meaning c.args.self.now.timetable.now) (g.T.Means.lawful c.args.self.now.timetable.now) c.args.self.now.standing.rows c.args.self.now.memory.now c.args.self.now.target.0 c.args.minute c.in_ok-found.found c.in_ok-found.ensures.1 y.0 y.1 (length c.args.out.now) c.in_ok-legs.legs y.2 z.0))

pub returns : goal.returns
returns g c =
    let y = c.in_ok-legs.ensures in
    let z = c.write_legs.ensures in
    (c.in_ok-found.ensures.0, given (g.T.Means.meaning c.args.self.now.timetable.now) (g.T.Means.lawful c.args.self.now.timetable.now) c.args.self.now.standing.rows c.args.self.now.memory.now c.args.self.now.target.0 c.args.minute c.in_ok-found.found c.in_ok-found.ensures.1 y.0 y.1 c.in_ok-legs.legs c.args.out.now c.write_legs.new.out z.0 z.1 y.2 c.in_ok-enough.ensures (rw (← c.later.ensures) z.2))
