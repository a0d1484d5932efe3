-- The row of the pair that arrive answers, as it is found.
use Rattle.std.specs.Prelude.{◌≡◌, ℕ, ◌⊎◌, List, length, Some, None, Result, MatchResult}
use Rattle.refusals.specs.declared.refusal.Refusal.{Refusal}
use Rattle.timetable.specs.declared.label.Label.{Label}
use Rattle.timetable.specs.Table.{Table}
use Rattle.answers.specs.Foreign.{AllOwn}
use Rattle.answers.specs.Chains.{JourneyRow}
use Rattle.answers.specs.Promises.{asked, RowsRefused}
use Rattle.answers.specs.Rowwise.{view_of}
use Rattle.questions.specs.declared.finding.Found.{Found}

pub record FoundRow (t : Table) (m : ℕ) (memory : List Label) (v n : ℕ) (f : Found) : Type 0 where
  pub own : AllOwn t m memory v
  pub view : f.rows.view ≡ view_of t m v
  pub read : f.rows.memory.now ≡ memory
  pub row : JourneyRow t m memory v n f.hit.row f.hit.periods

abbrev pub Sought : Table → ℕ → ℕ → List Label → ℕ → ℕ → Result Found Refusal → Type 0
Sought t s m memory v n r =
    MatchResult r
    (λ f. (asked t s m v n (length memory) ≡ None) × FoundRow t m memory v n f)
    (λ e. (asked t s m v n (length memory) ≡ Some e) ⊎ ((asked t s m v n (length memory) ≡ None) × RowsRefused t m memory v e))
