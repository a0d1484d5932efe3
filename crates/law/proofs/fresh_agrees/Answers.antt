use Rattle.law.proofs.Reports.{agrees_fresh}
use Rattle.law.proofs.fresh_agrees.Goals as goal

pub returns : goal.returns
returns c = agrees_fresh
