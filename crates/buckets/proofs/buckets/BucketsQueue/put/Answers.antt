-- `put` meets its contract.
use Rattle.std.proofs.Common.{◌<◌, length, refl, ap, ◌∙◌, arith}
use Rattle.std.proofs.lemmas.Result.{err_from_is_err_and}
use Rattle.buckets.specs.declared.chain.Cell.{Cell}
use Rattle.buckets.proofs.Walks.{next_of}
use Rattle.buckets.proofs.Places.{reserve_spare, reserve_fresh, full, not_full, held_long}
use Rattle.buckets.proofs.buckets.BucketsQueue.put.Goals as goal

pub returns-in-Some : goal.returns-in-Some
returns-in-Some g c =
    let o = g.met.E.Entry.sound in
    let q = c.args.self.now in
    let cs = q.cells.now in
    let cell = c.in-Some.cell in
    let lt : q.free < length cs = c.in-Some.ensures.0 in
    let next = ap (λ (c : Cell g.row.E.Denot). c.next) c.in-Some.ensures.1 ∙ next_of cs q.free cell lt in
    record {
      room = c.place.ensures.room;
      ordered = λ w. c.place.ensures.ordered (reserve_spare o w _ next lt);
      placed = λ w. let r = reserve_spare o w _ next lt in (let low = not_full o r in let held = held_long o w in omega arith, c.place.ensures.held r);
    }

pub returns-in_err-check_room-clause-placed : goal.returns-in_err-check_room-clause-placed
returns-in_err-check_room-clause-placed g c = λ w.
    let o = g.met.E.Entry.sound in
    let told = c.in_err-check_room.ensures in
    let p = err_from_is_err_and c.from_residual.result c.from_residual.ensures.1 in
    rw (p.1, p.2) (told.1, held_long o w ∙ full o w c.in_default.ensures told.0, refl)

pub returns : goal.returns
returns g c =
    let o = g.met.E.Entry.sound in
    let lt = c.in_ok-check_room.ensures in
    record {
      room = c.place-2.ensures.room;
      ordered = λ w. c.place-2.ensures.ordered (reserve_fresh o w lt);
      placed = λ w. let r = reserve_fresh o w lt in (let low = not_full o r in let held = held_long o w in omega arith, c.place-2.ensures.held r);
    }
