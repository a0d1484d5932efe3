-- What was found of rows that are looked at, over the table and the memory.
use Rattle.std.proofs.Common.{◌≡◌, ℕ, ◌<◌, List, subst}
use Rattle.timetable.specs.declared.label.Label.{Label}
use Rattle.timetable.specs.Table.{Table}
use Rattle.answers.specs.declared.view.View.{View}
use Rattle.answers.specs.Foreign.{AllOwn, FirstForeign}
use Rattle.answers.specs.Rowwise.{view_of, ForeignIn}
use Rattle.questions.specs.declared.rows.LabelRows.{LabelRows}
use Rattle.questions.specs.Judging.{FirstForeignIn}

module _ (t : Table) (m : ℕ) (memory : List Label) (v : ℕ) (r : LabelRows) (e : r.view ≡ view_of t m v) (q : r.memory.now ≡ memory) where
  -- what holds of them holds of these rows in this memory
  pub over : (P : View → List Label → Type 0) → P r.view r.memory.now → P (view_of t m v) memory
  over P x = subst (P (view_of t m v)) q (subst (λ (w : View). P w r.memory.now) e x)

  pub first_foreign : (i : ℕ) → FirstForeignIn r.view r.memory.now i → FirstForeign t m memory v i
  first_foreign i f = let x = over (λ w ls. FirstForeignIn w ls i) f in record { there = x.there; foreign = x.foreign; first = x.first }

  pub all_own : ((i : ℕ) → i < r.view.rows → ForeignIn r.view r.memory.now i → ⊥) → AllOwn t m memory v
  all_own f = over (λ w ls. (i : ℕ) → i < w.rows → ForeignIn w ls i → ⊥) f
