use Rattle.turns.specs.Opening.{Boarded}
use Rattle.search.proofs.plan.Plan.fill.Given as goal

abbrev pub invariant-loop-c : goal.invariant-loop-c
invariant-loop-c g l = Boarded g.B.Queue (g.T.Means.meaning l.self.t.now) l.self.source.0 l.c l.initial.board l.board
