use Rattle.law.proofs.Reports.{report_law}
use Rattle.planner.proofs.planner.Planner.late.Goals as goal

pub returns-clause-law : goal.returns-clause-law
returns-clause-law g c =
    let h = c.in_ok-late.ensures.answer in
    rw c.end_search.ensures.notices (report_law _ _ _ _ _ _ c.end_search.ensures.standing _ h.0 h.1)
