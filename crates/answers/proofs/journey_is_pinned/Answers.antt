use Rattle.answers.proofs.ChainPinned.{journey_pinned}
use Rattle.answers.proofs.journey_is_pinned.Goals as goal

pub returns : goal.returns
returns c = journey_pinned
