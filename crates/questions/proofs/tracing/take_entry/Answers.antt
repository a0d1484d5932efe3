use Rattle.std.proofs.Common.{◌<◌, ◌-◌, refl, ⊎_elim, arith}
use Rattle.std.proofs.lemmas.Bool.{cases_lt, lt-ltb}
use Rattle.timetable.specs.Table.{stations}
use Rattle.questions.proofs.tracing.take_entry.Goals as goal

pub returns-in-None : goal.returns-in-None
returns-in-None g c =
    let t = g.T.Means.meaning c.args.t.now in
    let h : c.args.place < stations t = ⊎_elim (λ k. k) (λ k. absurd (c.in-None.ensures (c.args.place - stations t) (omega (arith, c.requires.place)) (omega arith))) (cases_lt c.args.place (stations t)) in
    record { moved = rw (lt-ltb c.args.place (stations t) h) (omega arith); held = rw (lt-ltb c.args.place (stations t) h) refl }
