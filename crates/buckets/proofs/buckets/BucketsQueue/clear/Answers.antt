use Rattle.std.proofs.Common.{refl, arith}
use Rattle.buckets.proofs.Places.{empty, empty-held}
use Rattle.buckets.proofs.buckets.BucketsQueue.clear.Goals as goal

pub returns : goal.returns
returns g c =
    let o = g.met.E.Entry.sound in
    let told = c.clear.ensures in
    record { room = refl; ordered = empty o c.args.self.now.cells.now _ _ told.bits told.first (omega arith); none = empty-held o c.args.self.now.cells.now _ _ told.bits told.first (omega arith) }
