use Rattle.std.proofs.Common.{◌≡◌}
use Rattle.replay.specs.Runs.{SameBuffers, SameQueues, held, room_of}
use Rattle.replay.proofs.Going.{Going}
use Rattle.replay.proofs.running.replay.Given as goal

abbrev pub invariant-loop-i : goal.invariant-loop-i
invariant-loop-i g l =
    record {
      below : l.planner.notices.below ≡ l.fn.timetable;
      first : SameQueues g.B.Queue.room g.L.Queue.room l.initial.first l.first;
      second : SameQueues g.C.Queue.room g.M.Queue.room l.initial.second l.second;
      buffers : SameBuffers l.initial.buffers l.buffers;
      going : Going (g.T.Means.meaning l.fn.timetable) (record { first = room_of g.B.Queue.room g.L.Queue.room l.initial.first; second = room_of g.C.Queue.room g.M.Queue.room l.initial.second }) l.order-items l.initial.answers (held l.initial.buffers) l.answers l.i l.planner (held l.buffers);
    }
