use Rattle.buckets.proofs.Places.{firsts-lodged}
use Rattle.buckets.proofs.buckets.Buckets.front.Goals as goal

pub returns : goal.returns
returns g c = λ w. c.nearest.ensures w.marks (firsts-lodged g.met.E.Entry.sound w)
