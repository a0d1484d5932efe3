use Rattle.turns.proofs.Added.{grown_none}
use Rattle.search.proofs.puts.add_some.Goals as goal

pub returns-in_default : goal.returns-in_default
returns-in_default g c = rw c.in_default.is (grown_none g.E.Entry.ahead c.requires.in_order)
