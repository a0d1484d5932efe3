use Rattle.journeys.proofs.Queued.{opening_begins}
use Rattle.journeys.proofs.first_rides_begin.Goals as goal

pub returns : goal.returns
returns c = opening_begins
