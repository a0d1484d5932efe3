use Rattle.answers.proofs.ChainTold.{journey_told}
use Rattle.answers.proofs.journey_tells.Goals as goal

pub returns : goal.returns
returns c = journey_told
