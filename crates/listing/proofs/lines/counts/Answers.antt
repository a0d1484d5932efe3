use Rattle.std.proofs.Common.{ap, ◌∙◌}
use Rattle.std.proofs.lemmas.Result.{IfOk-weaker}
use Rattle.listing.specs.Text.{counts_text}
use Rattle.listing.proofs.lines.counts.Goals as goal

pub returns : goal.returns
returns g c = IfOk-weaker c.format.result _ _ (λ s e. e ∙ ap counts_text c.of-period.ensures) c.format.ensures.ok
