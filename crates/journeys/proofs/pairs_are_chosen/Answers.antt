use Rattle.journeys.proofs.Pairs.{pairs_chosen}
use Rattle.journeys.proofs.pairs_are_chosen.Goals as goal

pub returns : goal.returns
returns c = pairs_chosen
