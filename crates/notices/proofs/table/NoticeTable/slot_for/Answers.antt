use Rattle.std.proofs.Common.{rules}
use Rattle.notices.proofs.Entering.{on_none, own_or_free}
use Rattle.notices.proofs.table.NoticeTable.slot_for.Goals as goal

pub returns : goal.returns
returns c = let t = c.args.self.now in own_or_free t.slots t.all c.args.train.0 _ c.or_else.result c.slot_of.ensures (on_none c.slot_of.result _ _ _ (λ p. search rules) c.or_else.ensures)
