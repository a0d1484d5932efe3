use Rattle.journeys.proofs.Pairs.{pairs_cover}
use Rattle.journeys.proofs.pairs_are_covered.Goals as goal

pub returns : goal.returns
returns c = pairs_cover
