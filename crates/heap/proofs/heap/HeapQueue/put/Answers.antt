-- `put` meets its contract.
use Rattle.std.proofs.Common.{◌≡◌, ◌+◌, ◌-◌, ◌<◌, ◌≤◌, ◌++◌, length, take, drop, sym, refl, ap, ◌∙◌, subst, arith}
use Rattle.std.proofs.lemmas.List.{length-take-le}
use Rattle.std.proofs.lemmas.Result.{err_from_is_err_and}
use Rattle.queue.specs.Order.{sorted}
use Rattle.heap.specs.Heaped.{Heaped}
use Rattle.queue.proofs.Bag.{length-sorted}
use Rattle.heap.proofs.Ends.{front_length, front_is, put_rising, put_bag}
use Rattle.heap.proofs.heap.HeapQueue.put.Goals as goal

pub returns-in_err-check_room-clause-placed : goal.returns-in_err-check_room-clause-placed
returns-in_err-check_room-clause-placed g c = λ h.
    let told = c.in_err-check_room.ensures in
    let p = err_from_is_err_and c.from_residual.result c.from_residual.ensures.1 in
    rw (p.1, p.2) (told.1, length-sorted g.met.E.Entry.sound _ ∙ length-take-le _ _ h.0 ∙ omega (arith, h.0, told.0), refl)

pub returns : goal.returns
returns g c =
    let o = g.met.E.Entry.sound in
    let xs = c.args.self.now.cells.now in
    let n = c.args.self.now.len in
    let k = n + 1 - 0 in
    let e = c.args.e in
    let ys = c.rise.new.cells in
    let below : n < length xs = c.in_ok-check_room.ensures in
    let is : k ≡ n + 1 = omega arith in
    let within : k ≤ length xs = omega arith in
    let size : length (ys ++ drop k xs) ≡ length xs = front_length xs ys k within c.rise.auto.cells in
    let front : take (n + 1) (ys ++ drop k xs) ≡ ys = front_is xs ys k within c.rise.auto.cells (n + 1) (sym is) in
    record {
      room = size;
      ordered = λ h. (omega arith, subst (Heaped g.E.Entry.ahead) (sym front) (c.rise.ensures.heaped (put_rising o xs n k e is below h.1)));
      placed = λ h. (
        let held = length-sorted o (take n xs) ∙ length-take-le n xs h.0 in omega arith,
        ap (sorted g.E.Entry.ahead) front ∙ c.rise.ensures.bag ∙ put_bag o xs n k e is below,
      );
    }
