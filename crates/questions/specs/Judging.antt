-- What a target's entry is judged to be, and the first row that no search wrote.
use Rattle.std.specs.Prelude.{ℕ, ◌<◌, cond, ◌&&◌, List, ◌==◌, nat_le, nat_lt}
use Rattle.timetable.specs.declared.label.Label.{Label}
use Rattle.answers.specs.declared.view.View.{View}
use Rattle.answers.specs.Rowwise.{ForeignIn}
use Rattle.questions.specs.declared.judging.Judged.{Judged}
use Rattle.questions.specs.declared.judging.Judged.TheVariants.{Blank, Arrival, Foreign}

-- blank, or above the row's departure d and at most 400,000,000, or neither
abbrev pub judged : ℕ → ℕ → Judged
judged d n = cond (n == 4294967295) Blank (cond (nat_lt d n && nat_le n 400000000) Arrival Foreign)

pub record FirstForeignIn (w : View) (memory : List Label) (i : ℕ) : Type 0 where
  pub there : i < w.rows
  pub foreign : ForeignIn w memory i
  pub first : (j : ℕ) → j < i → ForeignIn w memory j → ⊥
