use Rattle.turns.proofs.Openings.{is_turn}
use Rattle.turns.proofs.opening_is_turn.Goals as goal

pub returns : goal.returns
returns c = is_turn
