use Rattle.std.proofs.Common.{drop, refl}
use Rattle.std.proofs.lemmas.List.{take-append-drop}
use Rattle.replay.proofs.carrying.lend.Goals as goal

pub returns-clause-law : goal.returns-clause-law
returns-clause-law g c b a =
    let mem = c.args.buffers.now.memory.now in
    let n = c.min-front.result in
    let h = c.step.ensures.law b (drop n mem) (rw (take-append-drop n mem) a) in
    let pairs = c.part-pairs.ensures in
    let legs = c.part-legs.ensures in
    (rw (← c.min-front.ensures, ← pairs.start, ← pairs.end, ← legs.start, ← legs.end) (record { memory = c.step.new.memory; pairs = c.step.new.pairs; legs = c.step.new.legs }, h.0, refl), h.1)
