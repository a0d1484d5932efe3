use Rattle.std.proofs.Common.{arith}
use Rattle.buckets.proofs.Bits.{none_lowest, the_lowest}
use Rattle.buckets.proofs.heads.lowest.Goals as goal

pub returns-in-0 : goal.returns-in-0
returns-in-0 c = none_lowest c.args.word c.args.from c.in-0.is

pub returns-in_default : goal.returns-in_default
returns-in_default c = the_lowest c.args.word c.args.from (omega arith) (omega arith)
