-- What the entry of a place in a row is, to a walk along its origins.
use Rattle.std.specs.Prelude.{◌≡◌, ℕ, List, [], ◌∷◌, Some, None, Option}
use Rattle.timetable.specs.declared.label.Label.{Label}
use Rattle.timetable.specs.Table.{Table}
use Rattle.timetable.specs.Labels.{Gives, no_origin}
use Rattle.timetable.specs.Rows.{entry}
use Rattle.journeys.specs.Search.{Entry}
use Rattle.answers.specs.Chains.{RowChain, label_at}

-- place o is the origin of p, and its label gives that of p
pub record GivenBy (t : Table) (memory : List Label) (i p o : ℕ) : Type 0 where
  pub origin : (entry t memory i p).origin ≡ o
  pub some : o ≡ no_origin → ⊥
  pub gives : Gives t o (entry t memory i o).minute p (entry t memory i p).minute

-- the row's first ride, or given by an origin
abbrev pub StepIs : Table → List Label → ℕ → ℕ → Option ℕ → Type 0
StepIs t memory i p None = RowChain t memory i p (label_at t memory i p ∷ [])
StepIs t memory i p (Some o) = GivenBy t memory i p o

-- on no way back to the first ride
abbrev pub NoChain : Table → List Label → ℕ → ℕ → Type 0
NoChain t memory i p = (es : List Entry) → RowChain t memory i p es → ⊥
