use Rattle.journeys.proofs.Examples.{worked}
use Rattle.journeys.proofs.worked_examples.Goals as goal

pub returns : goal.returns
returns c = worked
