use Rattle.law.proofs.Telling.{arrive_line}
use Rattle.planner.proofs.planner.Planner.arrive.Goals as goal

pub returns-clause-law : goal.returns-clause-law
returns-clause-law g c b rest a =
    arrive_line _ b _ rest _ _ a _ _ c.in_ok-standing.ensures _ _ c.arrive.ensures.answer c.arrive.ensures.searched
