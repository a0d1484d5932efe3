use Rattle.std.proofs.Common.{sym, refl, ◌∙◌}
use Rattle.answers.proofs.Walking.{step_first, step_not_first, origin_is, step_given, step_not_given}
use Rattle.questions.proofs.chain.Origins.step_back.Goals as goal
use Rattle.questions.proofs.chain.Origins.step_back.Goals.{in_default-via-in-None+else-is_first, in_default-via-in-Some+else-gives}

pub returns-in-None : goal.returns-in-None
returns-in-None g c =
    let t = g.T.Means.meaning c.args.self.now.timetable.now in
    let law = g.T.Means.lawful c.args.self.now.timetable.now in
    let y = c.if-is_first.ensures in
    step_first t law c.args.self.now.rows.view c.args.self.now.rows.memory.now c.args.self.now.row c.args.place c.requires c.entry-entry.result c.entry-entry.ensures c.in-None.ensures y.0 y.1

pub returns-in-Some : goal.returns-in-Some
returns-in-Some g c =
    let t = g.T.Means.meaning c.args.self.now.timetable.now in
    let law = g.T.Means.lawful c.args.self.now.timetable.now in
    let y = c.in-Some.ensures in
    let z = c.if-gives.ensures in
    record {
      origin = origin_is t law c.args.self.now.rows.view c.args.self.now.rows.memory.now c.args.self.now.row c.args.place c.requires c.entry-entry.result c.entry-entry.ensures c.in-Some.origin y.0 y.1;
      some = λ e. y.1 (sym y.0 ∙ e);
      gives = step_given t law c.args.self.now.rows.view c.args.self.now.rows.memory.now c.args.self.now.row c.args.place c.requires c.entry-entry.result c.entry-entry.ensures c.in-Some.origin y.0 y.1 z.1;
    }

pub returns-in_default : goal.returns-in_default
returns-in_default g c =
    let t = g.T.Means.meaning c.args.self.now.timetable.now in
    let law = g.T.Means.lawful c.args.self.now.timetable.now in
    elim c.in_default.branch [
      | in_default-via-in-None+else-is_first w ↦ (step_not_first t law c.args.self.now.rows.view c.args.self.now.rows.memory.now c.args.self.now.row c.args.place c.requires c.entry-entry.result c.entry-entry.ensures w.in-None.ensures w.if-is_first.ensures, refl)
      | in_default-via-in-Some+else-gives w ↦ (step_not_given t law c.args.self.now.rows.view c.args.self.now.rows.memory.now c.args.self.now.row c.args.place c.requires c.entry-entry.result c.entry-entry.ensures w.in-Some.origin w.in-Some.ensures.0 w.in-Some.ensures.1 w.if-gives.ensures, refl)
    ]
