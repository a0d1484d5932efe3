use Rattle.law.proofs.Reports.{lift_law}
use Rattle.planner.proofs.planner.Planner.lift.Goals as goal

pub returns-clause-law : goal.returns-clause-law
returns-clause-law g c =
    let h = c.in_ok-lift.ensures.answer in
    rw c.end_search.ensures.notices (lift_law _ _ _ _ _ _ c.end_search.ensures.standing h.0 h.1)
