use Rattle.std.proofs.Common.{◌≡◌, length, take, drop}
use Rattle.questions.proofs.Chosen.{pairs}
use Rattle.questions.proofs.rows.LabelRows.write_pairs.Given as goal

abbrev pub invariant-loop-place : goal.invariant-loop-place
invariant-loop-place l = (take (length l.yielded) l.out ≡ take (length l.yielded) (pairs l.self.view l.self.memory.now l.self.view.rows)) × (drop (length l.yielded) l.out ≡ drop (length l.yielded) l.initial.out)
