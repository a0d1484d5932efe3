use Rattle.journeys.proofs.Ways.{monotone}
use Rattle.journeys.proofs.earlier_gives_no_later.Goals as goal

pub returns : goal.returns
returns c = monotone
