use Rattle.journeys.proofs.Exactly.{keeps}
use Rattle.journeys.proofs.search_keeps.Goals as goal

pub returns : goal.returns
returns c = keeps
