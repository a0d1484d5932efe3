use Rattle.std.proofs.Common.{◌+◌, ◌%◌, subst, arith}
use Rattle.buckets.specs.Nearest.{Far, Near}
use Rattle.buckets.proofs.Fronts.{first_round, second_round}
use Rattle.buckets.proofs.front.Front.nearest.Goals as goal

pub returns-in-Some : goal.returns-in-Some
returns-in-Some g c = λ marked lodged.
    let cs = c.args.self.now.cells.now in
    let h = c.args.self.now.heads.now in
    let low = c.args.low in
    let b = c.in-Some.b in
    first_round g.met.E.Entry.sound cs h.bits h.first low lodged b (subst (λ m. Near g.E.Entry.minute_of cs h.bits h.first (m + 256) (low % 256) 256 b) c.from-bound.ensures (c.in-Some.ensures marked))

pub returns-in-Some-within : goal.returns-in-Some-within
returns-in-Some-within g c = λ marked lodged.
    let cs = c.args.self.now.cells.now in
    let h = c.args.self.now.heads.now in
    let low = c.args.low in
    let b = c.in-Some-within.b in
    second_round g.met.E.Entry.sound cs h.bits h.first low lodged b
    (subst (λ m. Far g.E.Entry.minute_of cs h.bits h.first (m + 256) (low % 256) 256) c.from-bound.ensures (c.in_default.ensures marked (omega arith)))
    (subst (λ m. Near g.E.Entry.minute_of cs h.bits h.first (m + 256) 0 (low % 256) b) c.from-bound.ensures (c.in-Some-within.ensures marked))
