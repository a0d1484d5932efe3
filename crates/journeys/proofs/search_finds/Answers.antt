use Rattle.journeys.proofs.Exactly.{found}
use Rattle.journeys.proofs.search_finds.Goals as goal

pub returns : goal.returns
returns c = found
