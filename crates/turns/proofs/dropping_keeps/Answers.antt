use Rattle.turns.proofs.Turns.{drop_keeps}
use Rattle.turns.proofs.dropping_keeps.Goals as goal

pub returns : goal.returns
returns c = drop_keeps
