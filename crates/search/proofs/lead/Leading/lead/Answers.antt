use Rattle.std.proofs.Common.{◌≡◌, ◌+◌, ◌<◌, List, map, length, sym, ap, subst, arith}
use Rattle.timetable.specs.Table.{stations, connections}
use Rattle.entries.specs.Kinds.{label_ahead}
use Rattle.journeys.specs.Search.{Entry}
use Rattle.turns.specs.Seen.{seen, waiting}
use Rattle.turns.specs.Puts.{Grown}
use Rattle.turns.proofs.Led.{leads-at}
use Rattle.search.proofs.lead.Leading.lead.Goals as goal

pub lead_by-requires : goal.lead_by-requires
lead_by-requires g c =
    let t = g.T.Means.meaning c.args.self.now.t.now in
    let x = seen c.args.self.now.label in
    let law = g.T.Means.lawful c.args.self.now.t.now in
    let there : x.place ≡ stations t + c.in-Some.number = omega (arith, c.in-Some.ensures, c.from.ensures, c.stations.ensures) in
    let known : c.in-Some.number < connections t = omega (arith, c.requires.place, there) in
    record {
      known = known;
      ready = record { in_order = c.requires.ready.in_order; has_room = omega (arith, c.requires.ready.has_room, ap length (leads-at t law x c.in-Some.number known there)) };
    }

pub returns-in-Some : goal.returns-in-Some
returns-in-Some g c =
    let t = g.T.Means.meaning c.args.self.now.t.now in
    let x = seen c.args.self.now.label in
    let law = g.T.Means.lawful c.args.self.now.t.now in
    let there : x.place ≡ stations t + c.in-Some.number = omega (arith, c.in-Some.ensures, c.from.ensures, c.stations.ensures) in
    let known : c.in-Some.number < connections t = omega (arith, c.requires.place, there) in
    subst (λ (z : List Entry). Grown g.L.Queue label_ahead (map waiting z) c.args.labels.now c.lead_by.new.labels) (sym (leads-at t law x c.in-Some.number known there)) c.lead_by.ensures
