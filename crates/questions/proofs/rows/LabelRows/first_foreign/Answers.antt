use Rattle.std.proofs.Common.{◌≡◌, ℕ, ◌≤◌, ◌<◌, List, Some, None, Option, MatchBool, MatchOption, refl, subst, arith}
use Rattle.timetable.specs.declared.label.Label.{Label}
use Rattle.answers.specs.declared.view.View.{View}
use Rattle.answers.specs.Rowwise.{ForeignIn}
use Rattle.questions.specs.Judging.{FirstForeignIn}
use Rattle.questions.specs.declared.rows.LabelRows.{LabelRows}
use Rattle.questions.proofs.Searched.{first_decided, same_answer}
use denote.Ref.{Bor}
use Rattle.questions.proofs.rows.LabelRows.first_foreign.Goals as goal

among_all : (w : View) (m : List Label) (r : Option ℕ) → MatchOption r ((k : ℕ) → 0 ≤ k → k < w.rows → ForeignIn w m k → ⊥) (λ i. (0 ≤ i) × (i < w.rows) × ForeignIn w m i × ((k : ℕ) → 0 ≤ k → k < i → ForeignIn w m k → ⊥)) → MatchOption r ((i : ℕ) → i < w.rows → ForeignIn w m i → ⊥) (λ i. FirstForeignIn w m i)
among_all w m None h = λ j l. h j (omega arith) l
among_all w m (Some i) h = record { there = h.1; foreign = h.2; first = λ j l. h.3 j (omega arith) l }

pub returns : goal.returns
returns c =
    let w = c.args.self.now.view in
    let m = c.args.self.now.memory.now in
    among_all w m _ (first_decided _ _ _ _ (λ i. ForeignIn w m i) c.find.ensures.ran (λ x b q k. (subst (λ (y : Bor LabelRows). q ≡ record { 0 = y }) k.called.met.1 refl, subst (λ (y : ℕ). MatchBool b (ForeignIn w m y) (ForeignIn w m y → ⊥)) k.shows (search (same_answer, k.called.met.0)))))
