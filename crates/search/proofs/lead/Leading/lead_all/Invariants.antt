use Rattle.std.proofs.Common.{map}
use Rattle.entries.specs.Kinds.{label_ahead}
use Rattle.journeys.specs.Queued.{each, leads_by}
use Rattle.turns.specs.Seen.{seen, waiting}
use Rattle.turns.specs.Puts.{Grown}
use Rattle.search.proofs.lead.Leading.lead_all.Given as goal

abbrev pub invariant-loop-c : goal.invariant-loop-c
invariant-loop-c g l = Grown g.L.Queue label_ahead (map waiting (each (leads_by (g.T.Means.meaning l.self.t.now) (seen l.self.label)) l.c)) l.initial.labels l.labels
