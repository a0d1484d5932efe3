use Rattle.std.proofs.Common.{◌-◌, sym, ◌∙◌, arith}
use borrow.Author.Tests.{ltb-true}
use Rattle.answers.specs.Foreign.{late, falls}
use Rattle.answers.specs.Rowwise.{ForeignIn}
use Rattle.questions.proofs.rows.LabelRows.is_foreign.Goals as goal
use Rattle.questions.proofs.rows.LabelRows.is_foreign.Goals.{then-self-departure, else-self-departure+then-row-gt0, else-self-departure+else-row-gt0}

pub returns-then-departure : goal.returns-then-departure
returns-then-departure c =
    let f : ForeignIn c.args.self.now.view c.args.self.now.memory.now c.args.row =
    elim c.if-self-departure.branch [
      | then-self-departure w ↦ late (omega (arith, w.if-self-departure.true, c.departure-departure.ensures))
      | else-self-departure+then-row-gt0 w ↦ falls (c.args.row - 1) (omega (arith, w.if-row-gt0.true)) (omega (arith, ltb-true _ _ (sym w.value-is ∙ c.if-departure.true), c.departure-departure.ensures, w.departure.ensures))
      | else-self-departure+else-row-gt0 w ↦ absurd (omega (arith, ltb-true _ _ (sym w.value-is ∙ c.if-departure.true), w.if-row-gt0.false))
    ] in
    rw c.if-departure.true f
