use Rattle.std.proofs.Common.{◌≡◌, ℕ, ◌≤◌, List, ◌++◌, length, take, drop, sym, refl, ap, ◌∙◌, subst, arith, rules, tests}
use Rattle.std.specs.List.{filter, range_with_len}
use Rattle.std.proofs.lemmas.List.{length-map, length_push, take-append-drop, take_all}
use Rattle.std.proofs.lemmas.List.FromFn.{length-enumerate_from}
use Rattle.std.proofs.lemmas.Iterator.Consumers.{YieldsList-at, YieldsList-from_enumerate, YieldsList-turn, YieldsList-end}
use Rattle.timetable.specs.declared.label.Label.{Label}
use Rattle.timetable.specs.declared.pair.Pair.{Pair}
use Rattle.answers.specs.declared.view.View.{View}
use Rattle.answers.specs.Rowwise.{Listed, row_pair}
use Rattle.answers.proofs.Outdone.{same_list}
use Rattle.questions.specs.declared.rows.LabelRows.{LabelRows}
use Rattle.questions.proofs.Chosen.{chosen, pairs, listed, chosen_rows}
use Rattle.questions.proofs.Written.{fits, one_more}
use denote.Ref.{Bor}
use Rattle.questions.proofs.rows.LabelRows.write_pairs.Goals as goal

-- there is room for the pairs of all chosen rows
room : (w : View) (m : List Label) (n : ℕ) → (qs : List Pair) × Listed w m w.rows qs × (length qs ≤ n) → length (filter (chosen w m) (range_with_len 0 w.rows)) ≤ n
room w m n q = omega (arith, q.2, ap length (same_list w m q.1 (listed w m w.rows)), length-map (filter (chosen w m) (range_with_len 0 w.rows)) (row_pair w m))

pub bounds-out-place : goal.bounds-out-place
bounds-out-place c =
    let w = c.args.self.now.view in
    let m = c.args.self.now.memory.now in
    let ks = filter (chosen w m) (range_with_len 0 w.rows) in
    let road = YieldsList-at {s = c.into_iter-place-iterator.result} {t = c.enumerate-place-items.result} c.into_iter-place-iterator.ensures.into_iter_gives (YieldsList-from_enumerate {s = c.enumerate-place-items.result} (YieldsList-at {t = c.filter-chosen.result} c.enumerate-place-items.ensures.source (chosen_rows w m _ {s = c.filter-chosen.result} c.filter-chosen.ensures.source c.filter-chosen.ensures.closure (λ x b q k. (subst (λ (y : Bor LabelRows). q ≡ record { 0 = y }) k.called.met.1 refl, search (rules, tests, k.called.met.0))))) c.enumerate-place-items.ensures.count) in
    let z = YieldsList-turn road c.loop-place.yielded c.loop-place.place-iterator c.loop-place.yielded_by c.next.result c.next.new.self (c.in-Some.place, c.in-Some.row) c.in-Some.is c.next.ensures.steps in
    fits (row_pair w m) ks (length c.loop-place.yielded) c.in-Some.place c.in-Some.row z.0 z.1 (length c.loop-place.out) (omega (arith, room w m (length c.args.out.now) c.requires, c.loop-place.auto.out))

pub offset_bounds-out-place : goal.offset_bounds-out-place
offset_bounds-out-place c = omega (arith, bounds-out-place c)

pub loop-place-preserved : goal.loop-place-preserved
loop-place-preserved c =
    let w = c.args.self.now.view in
    let m = c.args.self.now.memory.now in
    let ks = filter (chosen w m) (range_with_len 0 w.rows) in
    let road = YieldsList-at {s = c.into_iter-place-iterator.result} {t = c.enumerate-place-items.result} c.into_iter-place-iterator.ensures.into_iter_gives (YieldsList-from_enumerate {s = c.enumerate-place-items.result} (YieldsList-at {t = c.filter-chosen.result} c.enumerate-place-items.ensures.source (chosen_rows w m _ {s = c.filter-chosen.result} c.filter-chosen.ensures.source c.filter-chosen.ensures.closure (λ x b q k. (subst (λ (y : Bor LabelRows). q ≡ record { 0 = y }) k.called.met.1 refl, search (rules, tests, k.called.met.0))))) c.enumerate-place-items.ensures.count) in
    let z = YieldsList-turn road c.loop-place.yielded c.loop-place.place-iterator c.loop-place.yielded_by c.next.result c.next.new.self (c.in-Some.place, c.in-Some.row) c.in-Some.is c.next.ensures.steps in
    let i = c.loop-place.invariant in
    rw (length_push c.loop-place.yielded (c.in-Some.place, c.in-Some.row)) (one_more (row_pair w m) ks (length c.loop-place.yielded) c.in-Some.place c.in-Some.row z.0 z.1 c.loop-place.out c.args.out.now c.pair.result (omega (arith, room w m (length c.args.out.now) c.requires, c.loop-place.auto.out)) c.pair.ensures i.0 i.1)

pub returns : goal.returns
returns c =
    let w = c.args.self.now.view in
    let m = c.args.self.now.memory.now in
    let ks = filter (chosen w m) (range_with_len 0 w.rows) in
    let road = YieldsList-at {s = c.into_iter-place-iterator.result} {t = c.enumerate-place-items.result} c.into_iter-place-iterator.ensures.into_iter_gives (YieldsList-from_enumerate {s = c.enumerate-place-items.result} (YieldsList-at {t = c.filter-chosen.result} c.enumerate-place-items.ensures.source (chosen_rows w m _ {s = c.filter-chosen.result} c.filter-chosen.ensures.source c.filter-chosen.ensures.closure (λ x b q k. (subst (λ (y : Bor LabelRows). q ≡ record { 0 = y }) k.called.met.1 refl, search (rules, tests, k.called.met.0))))) c.enumerate-place-items.ensures.count) in
    let z = YieldsList-end road c.loop-place.yielded c.loop-place.place-iterator c.loop-place.yielded_by c.next.result c.next.new.self c.in-None.is c.next.ensures.steps in
    let i = c.loop-place.invariant in
    let n : length c.loop-place.yielded ≡ length (pairs w m w.rows) = omega (arith, z.1, length-enumerate_from 0 ks, length-map ks (row_pair w m)) in
    let ps = pairs w m w.rows in
    let front : take (length c.loop-place.yielded) c.loop-place.out ≡ ps = i.0 ∙ take_all (length c.loop-place.yielded) ps (omega (arith, n)) in
    (ps, listed w m w.rows, sym (take-append-drop (length c.loop-place.yielded) c.loop-place.out) ∙ ap (λ (y : List Pair). y ++ drop (length c.loop-place.yielded) c.loop-place.out) front ∙ ap (λ (y : List Pair). ps ++ y) i.1 ∙ ap (λ (y : ℕ). ps ++ drop y c.args.out.now) n)
