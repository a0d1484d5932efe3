use Rattle.law.proofs.Telling.{journey_line}
use Rattle.planner.proofs.planner.Planner.journey.Goals as goal

pub returns-clause-law : goal.returns-clause-law
returns-clause-law g c b rest a =
    journey_line _ b _ rest _ _ a _ _ c.in_ok-standing.ensures _ _ _ _ c.journey.ensures.answer c.journey.ensures.searched
