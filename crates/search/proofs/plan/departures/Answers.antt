use Rattle.std.proofs.Common.{ℕ, length, ap, ◌∙◌, rules, tests, arith}
use Rattle.std.proofs.lemmas.Iterator.{YieldsList-from_range}
use Rattle.std.proofs.lemmas.Iterator.Consumers.{YieldsList-from_filter, count_from_yields_List}
use Rattle.timetable.specs.Labels.{leaves, firsts_below}
use Rattle.turns.proofs.Departures.{tested_all}
use Rattle.search.proofs.plan.departures.Goals as goal

pub returns : goal.returns
returns g c =
    let t = g.T.Means.meaning c.args.t.now in
    count_from_yields_List _ _ c.count.ensures.ran (YieldsList-from_filter _ (leaves t c.args.source.0) (YieldsList-from_range 0 c.connections.result c.connections.result c.filter.ensures.source (omega arith)) c.filter.ensures.closure (λ x r q k. search (rules, tests))) ∙ tested_all t c.args.source.0 c.connections.result ∙ ap (λ (k : ℕ). length (firsts_below t c.args.source.0 k)) c.connections.ensures
