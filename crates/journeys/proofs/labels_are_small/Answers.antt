use Rattle.journeys.proofs.Sizes.{labels_small}
use Rattle.journeys.proofs.labels_are_small.Goals as goal

pub returns : goal.returns
returns c = labels_small
