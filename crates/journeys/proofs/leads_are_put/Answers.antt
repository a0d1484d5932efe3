use Rattle.journeys.proofs.Queued.{leads-put}
use Rattle.journeys.proofs.leads_are_put.Goals as goal

pub returns : goal.returns
returns c = leads-put
