use Rattle.std.proofs.Common.{◌≡◌, ◌-◌, ◌*◌, ◌<◌}
use Rattle.buckets.specs.Bitmap.{occupied, Clear}
use Rattle.buckets.proofs.heads.Heads.first_filled.Given as goal

abbrev pub invariant-loop-i : goal.invariant-loop-i
invariant-loop-i l = (l.low ≡ l.from - l.i * 64) × (l.low < 64) × Clear (occupied l.self.bits) l.from (l.i * 64)
