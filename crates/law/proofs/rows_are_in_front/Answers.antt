use Rattle.law.proofs.Books.{rows_in_front}
use Rattle.law.proofs.rows_are_in_front.Goals as goal

pub returns : goal.returns
returns c = rows_in_front
