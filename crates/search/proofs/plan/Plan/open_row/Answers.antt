use Rattle.std.proofs.Common.{◌≡◌, ℕ, ◌+◌, ◌-◌, ◌*◌, replicate, ap, ◌∙◌, rules, tests, arith}
use Rattle.std.proofs.lemmas.List.{places}
use Rattle.timetable.specs.Rows.{blank}
use Rattle.turns.proofs.Openings.{row_opened}
use Rattle.search.proofs.Turning.{row_inside}
use Rattle.search.proofs.plan.Plan.open_row.Goals as goal

pub returns : goal.returns
returns g c =
    let p = c.args.self.now in
    let t = g.T.Means.meaning p.t.now in
    let within = row_inside t p.source.0 p.places p.departures p.every_place p.every_rank c.args.rank.0 c.requires.rank in
    let same : c.fill.new.self ≡ replicate (c.args.rank.0 * (p.places + 1) + 1 + p.places - c.args.rank.0 * (p.places + 1)) blank = c.fill.ensures.after (λ y h. search (rules, tests)) ∙ ap (λ (k : ℕ). replicate k blank) (search (rules, places)) in
    rw (← p.every_place, ← c.from.ensures) (row_opened p.places c.args.rank.0 _ c.args.memory.now c.fill.new.self (c.args.rank.0 * (p.places + 1) + 1 + p.places) (omega arith) (omega (arith, within, c.requires.fits)) same)
