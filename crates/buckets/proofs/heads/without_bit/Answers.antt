use Rattle.std.proofs.Common.{w64}
use Rattle.std.proofs.lemmas.Nat.Bits.{bit_at_clear_same, bit_at_clear_other}
use Rattle.buckets.proofs.heads.without_bit.Goals as goal

pub returns : goal.returns
returns c = record { here = bit_at_clear_same w64 c.args.word c.args.k c.requires; others = bit_at_clear_other w64 c.args.word c.args.k c.requires }
