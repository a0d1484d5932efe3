use Rattle.std.proofs.Common.{◌≡◌, ◌<◌, true, None, length, get_or, rules, arith}
use Rattle.notices.specs.Slots.{names}
use Rattle.notices.proofs.Entering.{own_slot, found_none, none_at_all}
use Rattle.notices.proofs.table.NoticeTable.slot_of.Goals as goal

pub returns-then-is_some_and : goal.returns-then-is_some_and
returns-then-is_some_and c =
    let t = c.args.self.now in
    let named : names (get_or t.slots c.loop-i.i None) c.args.train.0 ≡ true = search rules in
    let within : c.loop-i.i < length t.slots = omega (arith, t.all) in
    own_slot t.slots t.apart c.args.train.0 c.loop-i.i within named

pub returns : goal.returns
returns c =
    let t = c.args.self.now in
    found_none t.slots c.args.train.0 (none_at_all t.slots c.args.train.0 t.all (λ j l. c.loop-i.invariant j (omega arith)))
