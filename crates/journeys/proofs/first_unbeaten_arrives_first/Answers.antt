use Rattle.journeys.proofs.Unbeaten.{first_unbeaten}
use Rattle.journeys.proofs.first_unbeaten_arrives_first.Goals as goal

pub returns : goal.returns
returns c = first_unbeaten
