use Rattle.journeys.proofs.Profiled.{arrival_checked}
use Rattle.journeys.proofs.arrivals_are_checked.Goals as goal

pub returns : goal.returns
returns c = arrival_checked
