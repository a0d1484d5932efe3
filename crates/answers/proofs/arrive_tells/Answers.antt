use Rattle.answers.proofs.Telling.{arrive_told}
use Rattle.answers.proofs.arrive_tells.Goals as goal

pub returns : goal.returns
returns c = arrive_told
