use Rattle.law.proofs.Reports.{agrees_fresh}
use Rattle.planner.proofs.planner.Planner.new.Goals as goal

pub returns-clause-law : goal.returns-clause-law
returns-clause-law g c memory = agrees_fresh _ _ memory c.new.ensures.says c.new.ensures.none
