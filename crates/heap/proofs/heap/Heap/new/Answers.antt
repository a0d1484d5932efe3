-- `new` meets its contract.
use Rattle.std.proofs.Common.{refl, arith}
use Rattle.queue.specs.Order.{sorted}
use Rattle.heap.proofs.Tree.{heaped_nil}
use Rattle.heap.proofs.heap.Heap.new.Goals as goal

pub returns : goal.returns
unfolding sorted
returns g c = record { room = refl; ordered = (omega arith, heaped_nil g.E.Entry.ahead); none = refl }
