use Rattle.std.proofs.Common.{◌≡◌, true, sym, ◌∙◌}
use Rattle.std.proofs.lemmas.Bool.{eqb-true}
use Rattle.questions.proofs.Deciding.{change_decided}
use Rattle.questions.proofs.giving.Stops.changes.Goals as goal
use Rattle.questions.proofs.giving.Stops.changes.Goals.{then-self-from, else-self-from}

pub returns-then-connection : goal.returns-then-connection
returns-then-connection g c =
    let a = c.in-Some.ensures in
    let b : (c.args.self.now.from.place ≡ c.connection_at-connection.result.start.0) × (c.connection_at-connection.result.runs ≡ true) =
    elim c.if-self-from.branch [
      | then-self-from w ↦ (w.if-self-from.true ∙ c.from-2.ensures, sym w.value-is ∙ c.if-connection.true)
      | else-self-from w ↦ absurd (w.if-self-from.false (eqb-true _ _ (sym w.value-is ∙ c.if-connection.true)))
    ] in
    change_decided (g.T.Means.meaning c.args.t.now) c.args.self.now.from.place c.args.self.now.from.minute c.args.self.now.to.place c.args.self.now.to.minute c.in-Some.number.0 c.connection_at-connection.result c.connection_at-connection.ensures a.0 a.1 c.from.result c.wait.result b.0 b.1 (c.from.ensures ∙ c.transfer_at.ensures) c.wait.ensures.value
