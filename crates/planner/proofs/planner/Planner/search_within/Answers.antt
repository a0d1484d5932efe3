use Rattle.std.proofs.lemmas.Result.{err_from_is_err_and}
use Rattle.law.proofs.Searching.{search_accepted, search_refused}
use Rattle.planner.proofs.planner.Planner.search_within.Goals as goal

pub returns-in_err-found-clause-law : goal.returns-in_err-found-clause-law
returns-in_err-found-clause-law g c b rest a =
    let e = err_from_is_err_and c.from_residual.result c.from_residual.ensures.1 in
    let h = c.in_err-found.ensures.answer in
    rw (e.1, e.2) (search_refused _ b _ _ _ _ rest _ _ _ a _ h.0 h.1)

pub returns-clause-law : goal.returns-clause-law
returns-clause-law g c b rest a =
    let h = c.in_ok-found.ensures.answer in
    search_accepted _ b _ _ _ _ rest _ _ _ a _ h.0 h.1
