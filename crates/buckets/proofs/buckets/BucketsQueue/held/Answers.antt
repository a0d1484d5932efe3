use Rattle.std.proofs.Common.{sym}
use Rattle.buckets.proofs.Places.{held_long}
use Rattle.buckets.proofs.buckets.BucketsQueue.held.Goals as goal

pub returns : goal.returns
returns g c = λ w. sym (held_long g.met.E.Entry.sound w)
