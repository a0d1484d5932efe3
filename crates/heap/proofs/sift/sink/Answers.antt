use Rattle.std.proofs.Common.{◌/◌, ◌<◌, ◌≤◌, length, set, sym, ◌∙◌, subst, arith}
use Rattle.std.proofs.lemmas.List.{length-set, set_past}
use Rattle.heap.specs.Heaped.{Heaped}
use Rattle.queue.proofs.Bag.{sorted-moved}
use Rattle.heap.proofs.Tree.{sink_step, sink_rests, sink_ends}
use Rattle.heap.proofs.sift.sink.Goals as goal
use Rattle.heap.proofs.sift.sink.Goals.{else-loop-at-test, then-loop-at-test+then-not-is_ahead}

pub returns-then-cells-at-clause-heaped : goal.returns-then-cells-at-clause-heaped
returns-then-cells-at-clause-heaped g c = λ h.
    let l = c.args.cells.now in
    let long = length-set l c.args.at c.args.e in
    subst (Heaped g.E.Entry.ahead) (set_past l c.args.at c.args.e c.if-cells-at.true) (sink_ends g.met.E.Entry.sound _ _ (omega arith) h)

pub loop-at-preserved : goal.loop-at-preserved
loop-at-preserved g c =
    let o = g.met.E.Entry.sound in
    let l = c.loop-at.cells in
    let j = c.loop-at.at in
    let x = c.index-cells-child.result in
    let e = c.args.e in
    let k = c.first_child-child.result in
    let told = c.first_child-child.ensures in
    let is = c.index-cells-child.is in
    let jn : j < length l = c.loop-at.invariant.0 in (
      let long = length-set l j x in omega arith,
      sorted-moved o l j k e x jn told.child.1 (omega arith) is ∙ c.loop-at.invariant.1,
      λ h. sink_step o l j k e x told.child.0 told.child.1 is (sym c.if-not-is_ahead.ensures) told.best (c.loop-at.invariant.2 h),
    )

pub returns-clause-heaped : goal.returns-clause-heaped
returns-clause-heaped g c = λ h.
    let o = g.met.E.Entry.sound in
    let l = c.loop-at.cells in
    let j = c.loop-at.at in
    let e = c.args.e in
    elim c.loop-at-test.branch [
      | else-loop-at-test w ↦ sink_ends o (set l j e) j (let long = length-set l j e in let leaf : length l / 2 ≤ j = w.loop-at-test.false in omega arith) (c.loop-at.invariant.2 h)
      | then-loop-at-test+then-not-is_ahead w ↦ sink_rests o l j w.first_child-child.result e w.index-cells-child.result w.first_child-child.ensures.child.0 w.first_child-child.ensures.child.1 w.index-cells-child.is (sym w.if-not-is_ahead.ensures) w.first_child-child.ensures.best (c.loop-at.invariant.2 h)
    ]
