use Rattle.journeys.proofs.Exactly.{begins_so}
use Rattle.journeys.proofs.search_begins.Goals as goal

pub returns : goal.returns
returns c = begins_so
