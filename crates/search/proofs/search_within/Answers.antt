use Rattle.std.proofs.Common.{length, sym}
use Rattle.turns.proofs.Openings.{opening_start}
use Rattle.search.proofs.Accepts.{accepted}
use Rattle.search.proofs.Turning.{answered}
use Rattle.search.proofs.search_within.Goals as goal

pub open-requires-clause-opening : goal.open-requires-clause-opening
open-requires-clause-opening g c =
    let p = c.new-plan.result in
    let t = g.T.Means.meaning p.t.now in
    let a = accepted t p.source.0 c.min-board_room.result c.min-labels_room.result (length c.args.memory.now) (sym c.in_ok-check.ensures) in
    opening_start t p.source.0 c.args.memory.now (g.B.Queue.bag c.fill.new.board) (g.L.Queue.bag c.clear-2.new.self) c.fill.ensures.holds c.clear-2.ensures.none a.memory_fits

pub returns-clause-answer : goal.returns-clause-answer
returns-clause-answer g c =
    let p = c.new-plan.result in
    rw (← c.new-plan.ensures.table, ← c.new-plan.ensures.source) (
      rw (← c.capacity.ensures, ← c.capacity-2.ensures, ← c.min-board_room.ensures, ← c.min-labels_room.ensures) (sym c.in_ok-check.ensures),
      answered (g.T.Means.meaning p.t.now) (g.T.Means.lawful p.t.now) p.source.0 p.every_rank c.open.ensures.opened c.run-written.ensures.ended,
    )
