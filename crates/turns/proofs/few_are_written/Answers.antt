use Rattle.turns.proofs.Turns.{few_written}
use Rattle.turns.proofs.few_are_written.Goals as goal

pub returns : goal.returns
returns c = few_written
