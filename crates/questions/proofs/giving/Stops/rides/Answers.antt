use Rattle.std.proofs.Common.{◌∙◌}
use Rattle.questions.proofs.Deciding.{ride_decided}
use Rattle.questions.proofs.giving.Stops.rides.Goals as goal

pub returns-then-self-from : goal.returns-then-self-from
returns-then-self-from g c =
    let a = c.in-Some.ensures in
    ride_decided (g.T.Means.meaning c.args.t.now) c.args.self.now.from.place c.args.self.now.from.minute c.args.self.now.to.place c.args.self.now.to.minute c.in-Some.number.0 c.connection_at-connection.result c.connection_at-connection.ensures c.from-then-self-from.result a.0 a.1 (c.if-self-from.true ∙ c.from.ensures) c.from-then-self-from.ensures
