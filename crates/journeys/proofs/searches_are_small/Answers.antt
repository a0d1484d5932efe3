use Rattle.journeys.proofs.Sizes.{search_small}
use Rattle.journeys.proofs.searches_are_small.Goals as goal

pub returns : goal.returns
returns c = search_small
