use Rattle.answers.proofs.Seen.{profile_searched}
use Rattle.questions.proofs.profiles.profile.Goals as goal

pub returns-clause-searched : goal.returns-clause-searched
returns-clause-searched g c = λ rows all. profile_searched (g.T.Means.meaning c.args.t.now) (g.T.Means.lawful c.args.t.now) c.args.standing.source.0 c.args.standing.rows c.args.target.0 c.args.memory.now rows all c.args.out.now c.profile.new.out c.profile.result c.profile.ensures
