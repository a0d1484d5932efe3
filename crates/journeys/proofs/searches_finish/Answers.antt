use Rattle.journeys.proofs.Whole.{finishes}
use Rattle.journeys.proofs.searches_finish.Goals as goal

pub returns : goal.returns
returns c = finishes
