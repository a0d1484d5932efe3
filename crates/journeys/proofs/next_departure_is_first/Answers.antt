use Rattle.journeys.proofs.Ways.{next-first}
use Rattle.journeys.proofs.next_departure_is_first.Goals as goal

pub returns : goal.returns
returns c = next-first
