use Rattle.journeys.proofs.Puts.{puts_few}
use Rattle.journeys.proofs.searches_put_few.Goals as goal

pub returns : goal.returns
returns c = puts_few
