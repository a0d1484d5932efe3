use Rattle.journeys.proofs.Exactly.{ends_so}
use Rattle.journeys.proofs.search_ends.Goals as goal

pub returns : goal.returns
returns c = ends_so
