use Rattle.std.proofs.Common.{◌<◌, length, get_or, sym, ◌∙◌, arith}
use Rattle.buckets.specs.Chains.{nexts, entries}
use Rattle.buckets.proofs.Walks.{walk_begins, walk_steps, walk_stops, next_of, length-nexts, length-entries}
use Rattle.buckets.proofs.chain.seek.Goals as goal

pub loop-step-init : goal.loop-step-init
loop-step-init g c =
    let cs = c.args.cells.now in
    let n = length-nexts cs in
    (c.requires, λ is chain le t. walk_begins g.met.E.Entry.sound (entries cs) (nexts cs) is c.args.e.now c.args.head (length-entries cs ∙ sym n) chain (omega (arith, c.requires)) t)

pub loop-step-preserved : goal.loop-step-preserved
loop-step-preserved g c =
    let cs = c.args.cells.now in
    let n = length-nexts cs in
    let x = c.loop-step.at in
    let next = (get_or cs x c.index-cells-at.result).next in
    let on = c.if-not-passes.ensures in
    let lt : next < length cs = on.0 in
    (lt, λ is chain le t. walk_steps g.met.E.Entry.sound (entries cs) (nexts cs) is c.args.e.now x c.loop-step._step next (length-entries cs ∙ sym n) (next_of cs x c.index-cells-at.result c.loop-step.invariant.0) (omega arith) on.1 (c.loop-step.invariant.1 is chain le t))

pub returns-then-not-passes-clause-sought : goal.returns-then-not-passes-clause-sought
returns-then-not-passes-clause-sought g c = λ is chain le t.
    let cs = c.args.cells.now in
    let n = length-nexts cs in
    let x = c.loop-step.at in
    let next = (get_or cs x c.index-cells-at.result).next in
    let off = c.if-not-passes.ensures in
    walk_stops g.met.E.Entry.sound (entries cs) (nexts cs) is c.args.e.now x c.loop-step._step next (length-entries cs ∙ sym n) (next_of cs x c.index-cells-at.result c.loop-step.invariant.0) (λ lt d. off d (omega (arith, lt))) (c.loop-step.invariant.1 is chain le t)
