use Rattle.std.proofs.Common.{◌≡◌}
use Rattle.turns.specs.Running.{Turn, turns_left}
use Rattle.search.proofs.plan.Plan.run.Given as goal

abbrev pub invariant-loop-x : goal.invariant-loop-x
invariant-loop-x g l =
    g.L.Queue.ordered l.labels
    × (g.L.Queue.room l.labels ≡ g.L.Queue.room l.initial.labels)
    × Turn (g.T.Means.meaning l.self.t.now) l.self.source.0 (g.L.Queue.room l.initial.labels) l.initial.memory l.memory (g.L.Queue.bag l.labels) l.written

abbrev pub decreases-loop-x : goal.decreases-loop-x
decreases-loop-x g l = turns_left (g.T.Means.meaning l.self.t.now) l.self.source.0 (g.L.Queue.bag l.labels) l.written
