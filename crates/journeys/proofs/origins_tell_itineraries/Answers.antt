use Rattle.journeys.proofs.Traced.{origins_tell}
use Rattle.journeys.proofs.origins_tell_itineraries.Goals as goal

pub returns : goal.returns
returns c = origins_tell
