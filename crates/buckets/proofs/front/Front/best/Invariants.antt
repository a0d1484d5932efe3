use Rattle.std.proofs.Common.{◌≡◌, length}
use Rattle.buckets.specs.InBuckets.{Marked}
use Rattle.buckets.proofs.Fronts.{Among}
use Rattle.buckets.proofs.front.Front.best.Given as goal

abbrev pub invariant-loop-b : goal.invariant-loop-b
invariant-loop-b g l =
    (goal.iterator-loop-b g).can_next l.b-iterator
    × (goal.iterator-loop-b g).is_finite l.b-iterator
    × (l.b-iterator.heads.now ≡ l.self.heads.now)
    × (Marked l.self.heads.now.bits l.self.heads.now.first (length l.self.cells.now) → Among g.met.E.Entry.sound l.self.cells.now l.self.heads.now.bits l.self.heads.now.first l.b-iterator.from l.best)
