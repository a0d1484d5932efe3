use Rattle.std.proofs.Common.{◌≡◌, length}
use Rattle.turns.specs.Opening.{Opening}
use Rattle.search.proofs.plan.Plan.open.Given as goal

abbrev pub invariant-loop-first : goal.invariant-loop-first
invariant-loop-first g l =
    g.B.Queue.ordered l.board
    × g.L.Queue.ordered l.labels
    × (g.B.Queue.room l.board ≡ g.B.Queue.room l.initial.board)
    × (g.L.Queue.room l.labels ≡ g.L.Queue.room l.initial.labels)
    × Opening (g.T.Means.meaning l.self.t.now) l.self.source.0 l.initial.memory l.memory (g.B.Queue.bag l.board) (g.L.Queue.bag l.labels) l.rank

abbrev pub decreases-loop-first : goal.decreases-loop-first
decreases-loop-first g l = length (g.B.Queue.bag l.board)
