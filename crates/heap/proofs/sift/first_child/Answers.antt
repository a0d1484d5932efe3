-- `first_child` meets its contract.
use Rattle.std.proofs.Common.{◌+◌, ◌*◌, sym, refl}
use Rattle.std.proofs.lemmas.Bool.{ltb-true}
use Rattle.heap.proofs.Tree.{best-only, best-left, best_right}
use Rattle.heap.proofs.sift.first_child.Goals as goal

pub returns-in-Some-clause-best : goal.returns-in-Some-clause-best
returns-in-Some-clause-best g c = let at-right = c.in-Some.ensures.lookup in best_right g.met.E.Entry.sound c.args.cells.now c.args.at (c.args.at * 2 + 1) c.index-cells-left.result c.in-Some.x.now refl (ltb-true _ _ (sym at-right.0)) c.index-cells-left.is at-right.1 (sym c.if-is_ahead.ensures)

pub returns-in_default-clause-best : goal.returns-in_default-clause-best
returns-in_default-clause-best g c = let at-right = c.in-Some.ensures.lookup in best-left g.met.E.Entry.sound c.args.cells.now c.args.at (c.args.at * 2 + 1) c.index-cells-left.result c.in-Some.x.now refl (ltb-true _ _ (sym at-right.0)) c.index-cells-left.is at-right.1 (sym c.if-is_ahead.ensures)

pub returns-in_default-2-clause-best : goal.returns-in_default-2-clause-best
returns-in_default-2-clause-best g c = let none = rw c.in_default.is at c.get.ensures.lookup in best-only g.met.E.Entry.sound c.args.cells.now c.args.at (c.args.at * 2 + 1) refl none.3
