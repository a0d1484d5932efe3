use Rattle.answers.proofs.Seen.{journey_searched}
use Rattle.questions.proofs.tracing.journey.Goals as goal

pub returns-clause-searched : goal.returns-clause-searched
returns-clause-searched g c = λ rows all. journey_searched (g.T.Means.meaning c.args.t.now) (g.T.Means.lawful c.args.t.now) c.args.standing.source.0 c.args.standing.rows c.args.target.0 c.args.memory.now rows all c.args.minute c.args.out.now c.journey.new.out c.journey.result c.journey.ensures
