-- `count` meets its contract.
use Rattle.std.proofs.Common.{sym, ◌∙◌}
use Rattle.std.proofs.lemmas.List.{length-take-le}
use Rattle.queue.proofs.Bag.{length-sorted}
use Rattle.heap.proofs.heap.HeapQueue.held.Goals as goal

pub returns : goal.returns
returns g c = λ h. sym (length-sorted g.met.E.Entry.sound _ ∙ length-take-le _ _ h.0)
