use Rattle.answers.proofs.Pinned.{profile_pinned}
use Rattle.answers.proofs.profile_is_pinned.Goals as goal

pub returns : goal.returns
returns c = profile_pinned
