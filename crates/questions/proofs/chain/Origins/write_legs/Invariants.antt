use Rattle.answers.specs.Walks.{Writing, depth_at}
use Rattle.questions.proofs.chain.Origins.write_legs.Given as goal

abbrev pub invariant-walk : goal.invariant-walk
invariant-walk g l = Writing (g.T.Means.meaning l.self.timetable.now) l.self.rows.view l.self.rows.memory.now l.self.row l.self.rows.view.target l.later l.legs l.initial.out l.place l.aboard l.at l.out

abbrev pub decreases-walk : goal.decreases-walk
decreases-walk g l = depth_at (g.T.Means.meaning l.self.timetable.now) l.self.rows.memory.now l.self.row l.place
