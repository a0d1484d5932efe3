use Rattle.journeys.proofs.Unbeaten.{unbeaten_always}
use Rattle.journeys.proofs.unbeaten_pairs_always_depart.Goals as goal

pub returns : goal.returns
returns c = unbeaten_always
