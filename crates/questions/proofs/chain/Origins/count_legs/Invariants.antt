use Rattle.answers.specs.Walks.{Counting, depth_at}
use Rattle.questions.proofs.chain.Origins.count_legs.Given as goal

abbrev pub invariant-walk : goal.invariant-walk
invariant-walk g l = Counting (g.T.Means.meaning l.self.timetable.now) l.self.rows.view l.self.rows.memory.now l.self.row l.self.rows.view.target l.place l.aboard l.legs

abbrev pub decreases-walk : goal.decreases-walk
decreases-walk g l = depth_at (g.T.Means.meaning l.self.timetable.now) l.self.rows.memory.now l.self.row l.place
