use Rattle.turns.proofs.Turns.{end_gives_rows}
use Rattle.turns.proofs.end_gives_rows.Goals as goal

pub returns : goal.returns
returns c = end_gives_rows
