use Rattle.std.proofs.Common.{ℕ, ◌+◌, ap, ◌∙◌}
use Rattle.answers.proofs.Walking.{count_end, count_onward, step_falls}
use Rattle.questions.proofs.chain.Origins.count_legs.Goals as goal

pub returns-in_default : goal.returns-in_default
returns-in_default g c =
    let x = rw c.in_default.is at c.in_ok-before.ensures in
    let y = count_end (g.T.Means.meaning c.args.self.now.timetable.now) (g.T.Means.lawful c.args.self.now.timetable.now) c.args.self.now.rows.view c.args.self.now.rows.memory.now c.args.self.now.row c.args.self.now.rows.view.target c.walk.place c.walk.aboard c.walk.legs c.walk.invariant x in
    (y.0, y.1, ap (λ (n : ℕ). c.walk.legs + n) c.opens-legs.ensures ∙ y.2)

pub walk-smaller : goal.walk-smaller
walk-smaller g c =
    let x = rw c.in-Some.is at c.in_ok-before.ensures in
    step_falls (g.T.Means.meaning c.args.self.now.timetable.now) (g.T.Means.lawful c.args.self.now.timetable.now) c.args.self.now.rows.view c.args.self.now.rows.memory.now c.args.self.now.row c.in-Some.before c.walk.place x.gives

pub walk-preserved : goal.walk-preserved
walk-preserved g c =
    let x = rw c.in-Some.is at c.in_ok-before.ensures in
    count_onward (g.T.Means.meaning c.args.self.now.timetable.now) (g.T.Means.lawful c.args.self.now.timetable.now) c.args.self.now.rows.view c.args.self.now.rows.memory.now c.args.self.now.row c.args.self.now.rows.view.target c.walk.place c.walk.aboard c.walk.legs c.walk.invariant c.in-Some.before c.from-stations.result x.origin x.some x.gives (c.from-stations.ensures ∙ c.stations.ensures) c.opens-legs.result c.opens-legs.ensures
