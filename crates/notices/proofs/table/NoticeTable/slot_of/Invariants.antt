use Rattle.std.proofs.Common.{◌≡◌, ℕ, ◌<◌, false, None, get_or}
use Rattle.notices.specs.Slots.{names}
use Rattle.notices.proofs.table.NoticeTable.slot_of.Given as goal

abbrev pub invariant-loop-i : goal.invariant-loop-i
invariant-loop-i l = (j : ℕ) → j < l.i → names (get_or l.self.slots j None) l.train.0 ≡ false
