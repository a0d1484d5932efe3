use Rattle.answers.proofs.Pinned.{arrive_pinned}
use Rattle.answers.proofs.arrive_is_pinned.Goals as goal

pub returns : goal.returns
returns c = arrive_pinned
