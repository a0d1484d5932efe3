-- `rise` meets its contract.
use Rattle.std.proofs.Common.{◌≡◌, ◌<◌, length, set}
use Rattle.queue.specs.Order.{sorted}
use Rattle.heap.specs.Heaped.{Rising}
use Rattle.heap.proofs.sift.rise.Given as goal

abbrev pub invariant-loop-at : goal.invariant-loop-at
invariant-loop-at g l =
    (l.at < length l.cells)
    × (sorted g.E.Entry.ahead (set l.cells l.at l.e) ≡ sorted g.E.Entry.ahead (set l.initial.cells l.initial.at l.e))
    × (Rising g.E.Entry.ahead (set l.initial.cells l.initial.at l.e) l.initial.at → Rising g.E.Entry.ahead (set l.cells l.at l.e) l.at)

abbrev pub decreases-loop-at : goal.decreases-loop-at
decreases-loop-at g l = l.at
