-- Rows that are looked at, or the refusal.
use Rattle.std.specs.Prelude.{◌≡◌, List, Some, None, Option, Result, MatchResult}
use Rattle.refusals.specs.declared.refusal.Refusal.{Refusal}
use Rattle.timetable.specs.declared.label.Label.{Label}
use Rattle.answers.specs.declared.view.View.{View}
use Rattle.questions.specs.declared.rows.LabelRows.{LabelRows}

-- refused with the refusal that holds, if one does; else the rows w in this memory
abbrev pub Looked : Option Refusal → View → List Label → Result LabelRows Refusal → Type 0
Looked refusal w memory r =
    MatchResult r
    (λ x. (refusal ≡ None) × (x.view ≡ w) × (x.memory.now ≡ memory))
    (λ e. refusal ≡ Some e)
