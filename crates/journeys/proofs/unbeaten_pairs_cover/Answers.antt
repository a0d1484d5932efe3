use Rattle.journeys.proofs.Unbeaten.{unbeaten_cover}
use Rattle.journeys.proofs.unbeaten_pairs_cover.Goals as goal

pub returns : goal.returns
returns c = unbeaten_cover
