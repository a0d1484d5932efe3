use Rattle.std.proofs.Common.{◌≡◌, rules}
use Rattle.notices.proofs.Entering.{slot, entered-set}
use Rattle.notices.proofs.table.NoticeTable.replace.Goals as goal

pub returns : goal.returns
returns c =
    let e : c.map.result ≡ slot c.args.train.0 c.args.report = search rules in
    rw e (entered-set c.args.train.0 c.args.report c.args.self.now.slots c.args.i c.requires)
