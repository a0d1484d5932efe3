use Rattle.journeys.proofs.Firsts.{first_departures}
use Rattle.journeys.proofs.first_departures.Goals as goal

pub returns : goal.returns
returns c = first_departures
