use Rattle.law.proofs.Books.{never_foreign}
use Rattle.law.proofs.rows_are_never_foreign.Goals as goal

pub returns : goal.returns
returns c = never_foreign
