use Rattle.std.proofs.Common.{◌+◌, Ok, arith}
use Rattle.std.proofs.lemmas.Result.{err_from_is_err_and}
use Rattle.answers.specs.Promises.{Arrived}
use Rattle.answers.proofs.Seen.{arrive_searched}
use Rattle.questions.proofs.Reached.{later_small, minutes, first_pair}
use Rattle.questions.proofs.arrivals.arrive.Goals as goal

pub returns-in_err-found : goal.returns-in_err-found
returns-in_err-found g c =
    let t = g.T.Means.meaning c.args.t.now in
    let law = g.T.Means.lawful c.args.t.now in
    let p = err_from_is_err_and c.from_residual.result c.from_residual.ensures.1 in
    let answer : Arrived t c.args.standing.source.0 c.args.standing.rows c.args.memory.now c.args.target.0 c.args.minute c.from_residual.result = rw (p.1, p.2) c.in_err-found.ensures in
    record { answer = answer; searched = λ rows all. arrive_searched t law c.args.standing.source.0 c.args.standing.rows c.args.target.0 c.args.memory.now rows all c.args.minute c.from_residual.result answer }

pub overflow_add-result : goal.overflow_add-result
overflow_add-result g c =
    let t = g.T.Means.meaning c.args.t.now in
    let law = g.T.Means.lawful c.args.t.now in
    let x = c.in_ok-found.ensures.1 in
    omega (arith, (minutes t law c.args.standing.rows c.args.memory.now c.args.target.0 c.args.minute c.in_ok-found.found x c.departure-departure.result c.arrival-arrival.result c.departure-departure.ensures c.arrival-arrival.ensures).0, later_small t law c.args.standing.rows c.args.memory.now c.args.target.0 c.args.minute c.in_ok-found.found x, law.period_high, c.later-later.ensures)

pub overflow_add-result-2 : goal.overflow_add-result-2
overflow_add-result-2 g c =
    let t = g.T.Means.meaning c.args.t.now in
    let law = g.T.Means.lawful c.args.t.now in
    let x = c.in_ok-found.ensures.1 in
    omega (arith, (minutes t law c.args.standing.rows c.args.memory.now c.args.target.0 c.args.minute c.in_ok-found.found x c.departure-departure.result c.arrival-arrival.result c.departure-departure.ensures c.arrival-arrival.ensures).1, later_small t law c.args.standing.rows c.args.memory.now c.args.target.0 c.args.minute c.in_ok-found.found x, c.later-later.ensures)

pub returns : goal.returns
returns g c =
    let t = g.T.Means.meaning c.args.t.now in
    let law = g.T.Means.lawful c.args.t.now in
    let x = c.in_ok-found.ensures in
    let later = c.later-later.result in
    let answer : Arrived t c.args.standing.source.0 c.args.standing.rows c.args.memory.now c.args.target.0 c.args.minute (Ok (record { departure = c.departure-departure.result + later; arrival = c.arrival-arrival.result + later })) = (x.0, x.1.own, first_pair t law c.args.standing.rows c.args.memory.now c.args.target.0 c.args.minute c.in_ok-found.found x.1 c.departure-departure.result c.arrival-arrival.result c.departure-departure.ensures c.arrival-arrival.ensures later c.later-later.ensures) in
    record { answer = answer; searched = λ rows all. arrive_searched t law c.args.standing.source.0 c.args.standing.rows c.args.target.0 c.args.memory.now rows all c.args.minute (Ok (record { departure = c.departure-departure.result + later; arrival = c.arrival-arrival.result + later })) answer }
