use Rattle.std.proofs.Common.{List, length, refl, ap, ◌∙◌, arith}
use lib.ListN.{length-map}
use Rattle.timetable.specs.Labels.{firsts_below}
use Rattle.entries.specs.declared.board.BoardEntry.{BoardEntry}
use Rattle.entries.specs.Kinds.{board_ahead}
use Rattle.turns.specs.Puts.{put_all}
use Rattle.turns.specs.Opening.{board_entry, departure_by}
use Rattle.turns.proofs.Departures.{board_fits, boarded_more}
use Rattle.search.proofs.plan.Plan.fill.Goals as goal

pub loop-c-init : goal.loop-c-init
unfolding firsts_below
loop-c-init g c = record { in_order = c.requires.ready.in_order; same_room = refl; holds = c.requires.none }

pub add_some-requires : goal.add_some-requires
add_some-requires g c =
    let t = g.T.Means.meaning c.args.self.now.t.now in
    let s = c.args.self.now.source.0 in
    record {
      in_order = c.loop-c.invariant.in_order;
      has_room = omega (
        arith,
        ap length c.departure.ensures,
        ap length c.loop-c.invariant.holds,
        length-map (firsts_below t s c.loop-c.c) (board_entry t),
        c.loop-c.invariant.same_room,
        board_fits t s c.loop-c.c (g.B.Queue.room c.args.board.now) (omega (arith, c.connections-c-end.ensures, c.loop-c-test.true)) (omega (arith, c.requires.ready.has_room)),
      );
    }

pub loop-c-preserved : goal.loop-c-preserved
loop-c-preserved g c =
    let t = g.T.Means.meaning c.args.self.now.t.now in
    let s = c.args.self.now.source.0 in
    record {
      in_order = c.add_some.ensures.in_order;
      same_room = c.add_some.ensures.same_room ∙ c.loop-c.invariant.same_room;
      holds = c.add_some.ensures.holds ∙ ap (λ (z : List BoardEntry). put_all board_ahead z (g.B.Queue.bag c.loop-c.board)) c.departure.ensures ∙ ap (put_all board_ahead (departure_by t s c.loop-c.c)) c.loop-c.invariant.holds ∙ boarded_more t s c.loop-c.c;
    }
