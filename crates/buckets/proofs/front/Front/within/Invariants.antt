-- The buckets passed are far.
use Rattle.std.proofs.Common.{◌≡◌, ◌≤◌, length}
use Rattle.buckets.specs.InBuckets.{Marked}
use Rattle.buckets.specs.Nearest.{Far}
use Rattle.buckets.proofs.front.Front.within.Given as goal

abbrev pub invariant-loop-b : goal.invariant-loop-b
invariant-loop-b g l =
    (goal.iterator-loop-b g).can_next l.b-iterator
    × (goal.iterator-loop-b g).is_finite l.b-iterator
    × (l.b-iterator.heads.now ≡ l.self.heads.now)
    × (l.from ≤ l.b-iterator.from)
    × (Marked l.self.heads.now.bits l.self.heads.now.first (length l.self.cells.now) → Far g.E.Entry.minute_of l.self.cells.now l.self.heads.now.bits l.self.heads.now.first l.bound l.from l.b-iterator.from)
