use Rattle.std.proofs.Common.{◌-◌, ◌/◌, ◌<◌, length, set, sym, ◌∙◌, arith}
use Rattle.std.proofs.lemmas.List.{length-set}
use Rattle.queue.proofs.Bag.{sorted-moved}
use Rattle.heap.proofs.Tree.{rise_step, rise_rests, rise_tops}
use Rattle.heap.proofs.sift.rise.Goals as goal
use Rattle.heap.proofs.sift.rise.Goals.{else-loop-at-test, then-loop-at-test+then-not-is_ahead}

pub loop-at-preserved : goal.loop-at-preserved
loop-at-preserved g c =
    let o = g.met.E.Entry.sound in
    let l = c.loop-at.cells in
    let j = c.loop-at.at in
    let x = c.index-cells-up.result in
    let e = c.args.e in
    let u = (j - 1) / 2 in
    let jn : j < length l = c.loop-at.invariant.0 in
    let some : 0 < j = omega arith in (
      let long = length-set l j x in omega arith,
      sorted-moved o l j u e x jn (omega arith) (omega arith) c.index-cells-up.is ∙ c.loop-at.invariant.1,
      λ h. rise_step o l j u e x (omega arith) jn c.index-cells-up.is (sym c.if-not-is_ahead.ensures) (c.loop-at.invariant.2 h),
    )

pub returns-clause-heaped : goal.returns-clause-heaped
returns-clause-heaped g c = λ h.
    let o = g.met.E.Entry.sound in
    let l = c.loop-at.cells in
    let j = c.loop-at.at in
    let e = c.args.e in
    elim c.loop-at-test.branch [
      | else-loop-at-test w ↦ rise_tops o (set l j e) j (omega arith) (c.loop-at.invariant.2 h)
      | then-loop-at-test+then-not-is_ahead w ↦ rise_rests o l j ((j - 1) / 2) e w.index-cells-up.result (let some : 0 < j = w.loop-at-test.true in omega arith) c.loop-at.invariant.0 w.index-cells-up.is (sym w.if-not-is_ahead.ensures) (c.loop-at.invariant.2 h)
    ]
