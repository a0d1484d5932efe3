use Rattle.std.proofs.Common.{arith}
use Rattle.turns.proofs.Departures.{ranks_few}
use Rattle.search.proofs.plan.Plan.new.Goals as goal

pub overflow_cast-result : goal.overflow_cast-result
overflow_cast-result g c = omega (arith, c.departures.ensures, ranks_few (g.T.Means.meaning c.args.t.now) c.args.source.0 (g.T.Means.lawful c.args.t.now))
