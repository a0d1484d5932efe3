use Rattle.turns.proofs.Turns.{settle_keeps}
use Rattle.turns.proofs.settling_keeps.Goals as goal

pub returns : goal.returns
returns c = settle_keeps
