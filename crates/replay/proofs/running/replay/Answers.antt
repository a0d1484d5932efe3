use Rattle.std.proofs.Common.{rules, ◌∙◌, ◌<◌, length, arith, length-take}
use Rattle.replay.proofs.Going.{going_none, going_more}
use Rattle.replay.proofs.running.replay.Goals as goal

pub loop-i-init : goal.loop-i-init
loop-i-init g c = record {
  below = c.new-planner.ensures.below;
  first = search rules;
  second = search rules;
  buffers = search rules;
  going = going_none _ _ _ _ _ _ (rw (← c.new-planner.ensures.below) (c.new-planner.ensures.law c.args.buffers.now.memory.now));
}

pub loop-i-preserved : goal.loop-i-preserved
loop-i-preserved g c =
    let inv = c.loop-i.invariant in
    let next = c.carry_out.ensures in
    let k : c.loop-i.i < length c.loop-i.answers = omega (arith, length-take c.min-n.result c.args.orders.now) in
    record {
      below = next.below ∙ inv.below;
      first = search rules;
      second = search rules;
      buffers = search rules;
      going = going_more _ _ _ _ _ _ c.loop-i.i _ _ _ _ _ _ c.loop-i-test.true k inv.going (rw (inv.below, inv.first.board_room, inv.first.labels_room, inv.second.board_room, inv.second.labels_room) at next.law);
    }
