use Rattle.std.proofs.Common.{ℕ, ◌≤◌, ◌<◌, List, Some, None, Option, MatchOption, arith, rules, tests}
use Rattle.std.proofs.lemmas.Iterator.{first_from_Range}
use Rattle.timetable.specs.declared.label.Label.{Label}
use Rattle.answers.specs.declared.view.View.{View}
use Rattle.answers.specs.Rowwise.{ChosenRow, leaving, NoneFrom, FirstFrom}
use Rattle.questions.proofs.rows.LabelRows.first_from.Goals as goal

among_all : (w : View) (m : List Label) (n : ℕ) (r : Option ℕ) → MatchOption r ((k : ℕ) → 0 ≤ k → k < w.rows → ChosenRow w m k → n ≤ leaving w m k → ⊥) (λ i. (0 ≤ i) × (i < w.rows) × (ChosenRow w m i × (n ≤ leaving w m i)) × ((k : ℕ) → 0 ≤ k → k < i → ChosenRow w m k → n ≤ leaving w m k → ⊥)) → MatchOption r (NoneFrom w m n) (λ i. FirstFrom w m n i)
among_all w m n None h = λ j k l. h j (omega arith) k.there k l
among_all w m n (Some i) h = record { chosen = h.2.0; late_enough = h.2.1; first = λ j l k e. h.3 j (omega arith) l k e }

pub returns : goal.returns
returns c =
    let w = c.args.self.now.view in
    let m = c.args.self.now.memory.now in
    let n = c.args.minute in
    among_all w m n _ (first_from_Range _ _ _ _ (λ i. ChosenRow w m i × (n ≤ leaving w m i)) (λ i. ChosenRow w m i → n ≤ leaving w m i → ⊥) c.find.ensures.ran (λ x q k. search (rules, tests)) (λ x q k. search (rules, tests)))
