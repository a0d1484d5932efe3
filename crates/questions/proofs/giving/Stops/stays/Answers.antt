use Rattle.std.proofs.Common.{ℕ, ◌+◌, sym, ap, ◌∙◌, arith}
use Rattle.std.proofs.lemmas.Bool.{eqb-true, not-false}
use Rattle.timetable.specs.Table.{ahead, at}
use Rattle.questions.proofs.Deciding.{stay_decided}
use Rattle.questions.proofs.giving.Stops.stays.Goals as goal

pub returns-in_default : goal.returns-in_default
returns-in_default g c = λ d e j r q p m. c.in_default.ensures d (omega (arith, j.next, j.there)) q

pub returns-in_default-connection_of : goal.returns-in_default-connection_of
returns-in_default-connection_of g c = λ d e j r q p m. c.in_default-connection_of.ensures e j.there p

pub returns : goal.returns
returns g c =
    let t = g.T.Means.meaning c.args.t.now in
    let a = c.in-Some.ensures in
    let b = c.in-Some-connection_of.ensures in
    let one = c.if-next_number-number.false in
    stay_decided t c.args.self.now.from.place c.args.self.now.from.minute c.args.self.now.to.place c.args.self.now.to.minute c.in-Some.number.0 c.connection_at-connection.result c.connection_at-connection.ensures a.1 c.connection_at-next.result (c.connection_at-next.ensures ∙ ap (λ (n : ℕ). at t n) one) c.from-ride.result c.wait-stand.result (omega (arith, one, b.0)) (omega (arith, one, b.1)) (eqb-true _ _ (not-false _ (sym c.if-ne.ensures))) c.if-not-next.false c.from-ride.ensures
    (c.wait-stand.ensures.value ∙ ap (λ (y : ℕ). ahead t.period (y + c.from-ride.result) c.connection_at-next.result.departure) c.from.ensures)
