use Rattle.std.proofs.Common.{◌≡◌, ℕ, ◌<◌, Bool, true, false, List, MatchBool, length, get_or, subst, refl, arith, rules, tests}
use Rattle.std.specs.List.{range_with_len, AllWithin, HoldsAt}
use Rattle.std.proofs.lemmas.Iterator.{cases_from_all, YieldsList-from_range}
use Rattle.std.proofs.lemmas.List.FromFn.{length-range_with_len, get_or-range_with_len}
use Rattle.timetable.specs.declared.label.Label.{Label}
use Rattle.answers.specs.declared.view.View.{View}
use Rattle.answers.specs.Rowwise.{Comes, Yields, ChosenRow}
use Rattle.questions.proofs.rows.LabelRows.is_chosen.Goals as goal

module _ (w : View) (m : List Label) (i : ℕ) (there : i < w.rows) (comes : Comes w m i) where
  abbrev all : List ℕ
  all = range_with_len 0 w.rows

  by_all : (r : Bool) → MatchBool r (AllWithin (λ j. Comes w m j → Yields w m i j) all 0 (length all)) ((k : ℕ) × (k < length all) × HoldsAt (λ j. Comes w m j × (Yields w m i j → ⊥)) all k) → MatchBool r (ChosenRow w m i) (ChosenRow w m i → ⊥)
  by_all true h = record {
    there = there;
    comes = comes;
    alone = λ j l. (let e : get_or all j 0 ≡ j = omega (arith, get_or-range_with_len 0 w.rows j 0 l) in subst (λ (x : ℕ). Comes w m x → Yields w m i x) e (h j 0 (omega arith) (omega (arith, length-range_with_len 0 w.rows))));
  }
  by_all false h = λ c. let k : h.0 < w.rows = omega (arith, h.1, length-range_with_len 0 w.rows) in (h.2 0).1 (c.alone _ (omega (arith, k, get_or-range_with_len 0 w.rows h.0 0 k)) (h.2 0).0)

pub returns-then-reaches : goal.returns-then-reaches
returns-then-reaches c =
    let w = c.args.self.now.view in
    let m = c.args.self.now.memory.now in
    let i = c.args.row in
    by_all w m i c.requires c.if-reaches.ensures _
    (cases_from_all _ _ _ (λ j. Comes w m j → Yields w m i j) (λ j. Comes w m j × (Yields w m i j → ⊥)) c.all.ensures.ran (YieldsList-from_range 0 w.rows w.rows refl (omega arith)) (λ x q k. search (rules, tests)) (λ x q k. search (rules, tests)))
