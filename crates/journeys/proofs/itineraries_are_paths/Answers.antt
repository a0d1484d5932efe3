use Rattle.journeys.proofs.Walk.{bridge}
use Rattle.journeys.proofs.itineraries_are_paths.Goals as goal

pub returns : goal.returns
returns c = bridge
