use Rattle.search.proofs.Turning.{entry_inside}
use Rattle.search.proofs.plan.Plan.index.Goals as goal

pub returns-clause-inside : goal.returns-clause-inside
returns-clause-inside g c below h =
    let p = c.args.self.now in
    entry_inside (g.T.Means.meaning p.t.now) p.source.0 p.places p.departures p.every_place p.every_rank c.args.rank.0 below c.args.place.0 h
