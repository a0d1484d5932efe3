-- `seek` meets its contract.
use Rattle.std.proofs.Common.{◌≡◌, ℕ, ◌<◌, ◌≤◌, true, List, length, get_or}
use Rattle.buckets.specs.Chains.{Chain, nexts, entries}
use Rattle.buckets.proofs.Walks.{Walked}
use Rattle.buckets.proofs.chain.seek.Given as goal

abbrev pub invariant-loop-step : goal.invariant-loop-step
invariant-loop-step g l =
    (l.at < length l.cells)
    × ((is : List ℕ) → Chain (nexts l.cells) l.head is → length is ≤ length l.cells → ((d : g.row.E.Denot) → g.E.Entry.ahead (get_or (entries l.cells) l.head d) l.e ≡ true) → Walked g.met.E.Entry.sound (entries l.cells) (nexts l.cells) is l.e l.at l._step)
