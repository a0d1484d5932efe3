use Rattle.answers.proofs.Telling.{profile_told}
use Rattle.answers.proofs.profile_tells.Goals as goal

pub returns : goal.returns
returns c = profile_told
