use Rattle.std.proofs.Common.{arith}
use Rattle.buckets.proofs.Bits.{clear_word, first_word}
use Rattle.buckets.proofs.heads.Heads.first_filled.Goals as goal

pub loop-i-preserved : goal.loop-i-preserved
loop-i-preserved c =
    let was = c.loop-i.invariant in
    (omega (arith, was.0, was.1), omega arith, clear_word c.args.self.now.bits c.args.from c.loop-i.i c.loop-i.low was.0 was.2 c.in_default.ensures)

pub returns-in-Some : goal.returns-in-Some
returns-in-Some c =
    let was = c.loop-i.invariant in
    first_word c.args.self.now.bits c.args.from c.loop-i.i c.loop-i.low was.0 was.2 c.in-Some.k c.loop-i-test.true c.in-Some.ensures
