-- `take` meets its contract.
use Rattle.std.proofs.Common.{◌≡◌, ◌+◌, ◌-◌, ◌≤◌, ◌∷◌, ◌++◌, length, get_or, take, drop, sym, refl, ap, ◌∙◌, subst, arith}
use Rattle.std.proofs.lemmas.List.{get_or_default}
use Rattle.queue.specs.Order.{sorted}
use Rattle.heap.specs.Heaped.{Heaped}
use Rattle.queue.proofs.Bag.{ascends_sorted, first_least}
use Rattle.heap.proofs.Ends.{front_length, front_is, take_sinking, take_bag}
use Rattle.heap.proofs.heap.HeapQueue.take.Goals as goal

pub returns-in_err-end-clause-taken : goal.returns-in_err-end-clause-taken
unfolding sorted
returns-in_err-end-clause-taken g c = λ h.
    let few = c.in_err-end.ensures in
    let none : c.args.self.now.len ≡ 0 = omega arith in
    rw c.from_residual.ensures (ap (λ m. sorted g.E.Entry.ahead (take m c.args.self.now.cells.now)) none, refl)

pub returns : goal.returns
returns g c =
    let o = g.met.E.Entry.sound in
    let ahead = g.E.Entry.ahead in
    let xs = c.args.self.now.cells.now in
    let n = c.args.self.now.len in
    let k = c.in_ok-end.end - 0 in
    let first = get_or xs 0 c.index-self-0.result in
    let last = get_or xs c.in_ok-end.end c.index-self-end.result in
    let ys = c.sink.new.cells in
    let told = c.in_ok-end.ensures in
    let at-end : c.in_ok-end.end ≡ k = omega arith in
    let is : k + 1 ≡ n = omega (arith, told.0, told.1) in
    let fits : n ≤ length xs = omega arith in
    let head : first ≡ get_or xs 0 first = get_or_default xs 0 _ _ (omega arith) in
    let end : last ≡ get_or xs k last = get_or_default xs c.in_ok-end.end _ last (omega arith) ∙ ap (λ m. get_or xs m last) at-end in
    let size : length (ys ++ drop k xs) ≡ length xs = front_length xs ys k (omega arith) c.sink.auto.cells in
    let front : take c.in_ok-end.end (ys ++ drop k xs) ≡ ys = front_is xs ys k (omega arith) c.sink.auto.cells c.in_ok-end.end at-end in
    let left = take c.in_ok-end.end (ys ++ drop k xs) in
    let took : Heaped ahead (take n xs) → sorted ahead (take n xs) ≡ first ∷ sorted ahead left = λ h. take_bag o xs n k first last is fits head end h ∙ ap (λ l. first ∷ l) (sym (ap (sorted ahead) front ∙ c.sink.ensures.bag)) in
    record {
      room = size;
      ordered = λ h. (omega arith, subst (Heaped g.E.Entry.ahead) (sym front) (c.sink.ensures.heaped (take_sinking o xs n k first last is fits head end h.1)));
      taken = λ h. took h.1;
      least = λ h. first_least ahead (sorted ahead (take n xs)) first (sorted ahead left) (ascends_sorted o (take n xs)) (took h.1);
    }
