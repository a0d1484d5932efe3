use Rattle.law.proofs.Telling.{profile_line}
use Rattle.planner.proofs.planner.Planner.profile.Goals as goal

pub returns-clause-law : goal.returns-clause-law
returns-clause-law g c b rest a =
    profile_line _ b _ rest _ _ a _ _ c.in_ok-standing.ensures _ _ _ c.profile.ensures.answer c.profile.ensures.searched
