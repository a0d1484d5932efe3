use Rattle.std.proofs.Common.{refl, arith}
use Rattle.buckets.proofs.Places.{empty, empty-held}
use Rattle.buckets.proofs.buckets.Buckets.new.Goals as goal

pub returns : goal.returns
returns g c =
    let o = g.met.E.Entry.sound in
    let told = c.new.ensures in
    record { room = refl; ordered = empty o c.args.cells.now _ _ told.bits told.first (omega arith); none = empty-held o c.args.cells.now _ _ told.bits told.first (omega arith) }
