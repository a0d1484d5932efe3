use Rattle.std.proofs.Common.{◌≡◌, ℕ, ◌+◌, List, ◌++◌, map, length, sym, refl, ap, ◌∙◌, subst, arith, length-append}
use mathlib.Core.List.{map-append}
use lib.ListN.{length-map}
use Rattle.timetable.specs.Table.{Table}
use Rattle.entries.specs.declared.label.LabelEntry.{LabelEntry}
use Rattle.entries.specs.Kinds.{label_ahead}
use Rattle.journeys.specs.Search.{Entry}
use Rattle.journeys.specs.Queued.{ride_by, stay_by, change_by, leads_by}
use Rattle.turns.specs.Seen.{seen, waiting}
use Rattle.turns.specs.Puts.{Grown, those}
use Rattle.turns.proofs.Added.{grown_then, ready_more}
use Rattle.search.proofs.lead.Leading.lead_by.Goals as goal

-- the three parts, as they wait
parts : (t : Table) (x : Entry) (c : ℕ) → map waiting (ride_by t x c) ++ (map waiting (stay_by t x c) ++ map waiting (change_by t x c)) ≡ map waiting (leads_by t x c)
parts t x c = ap (λ (z : List LabelEntry). map waiting (ride_by t x c) ++ z) (sym (map-append waiting (stay_by t x c) (change_by t x c))) ∙ sym (map-append waiting (ride_by t x c) (stay_by t x c ++ change_by t x c))

parts_length : (t : Table) (x : Entry) (c : ℕ) (r s u : List LabelEntry) → r ≡ map waiting (ride_by t x c) → s ≡ map waiting (stay_by t x c) → u ≡ map waiting (change_by t x c) → length r + (length s + length u) ≡ length (leads_by t x c)
parts_length t x c r s u e f h = omega (
  arith,
  ap length e,
  ap length f,
  ap length h,
  length-map (ride_by t x c) waiting,
  length-map (stay_by t x c) waiting,
  length-map (change_by t x c) waiting,
  length-append (ride_by t x c) (stay_by t x c ++ change_by t x c),
  length-append (stay_by t x c) (change_by t x c),
)

pub add_some-requires-2 : goal.add_some-requires-2
add_some-requires-2 g c =
    let t = g.T.Means.meaning c.args.self.now.t.now in
    let x = seen c.args.self.now.label in
    let n = c.args.number.0 in
    ready_more label_ahead c.requires.ready c.add_some.ensures
    (omega (arith, parts_length t x n (map waiting (ride_by t x n)) (those c.stay.result) (those c.change.result) refl c.stay.ensures c.change.ensures))

pub add_some-requires-3 : goal.add_some-requires-3
add_some-requires-3 g c =
    let t = g.T.Means.meaning c.args.self.now.t.now in
    let x = seen c.args.self.now.label in
    let n = c.args.number.0 in
    ready_more label_ahead c.requires.ready (grown_then label_ahead c.add_some.ensures c.add_some-2.ensures)
    (omega (arith, parts_length t x n (those c.ride.result) (those c.stay.result) (those c.change.result) c.ride.ensures c.stay.ensures c.change.ensures, length-append (those c.stay.result) (those c.change.result)))

pub returns : goal.returns
returns g c =
    let t = g.T.Means.meaning c.args.self.now.t.now in
    let x = seen c.args.self.now.label in
    let n = c.args.number.0 in
    let e : those c.ride.result ++ (those c.stay.result ++ those c.change.result) ≡ map waiting (leads_by t x n) = cc (parts t x n, c.ride.ensures, c.stay.ensures, c.change.ensures) in
    subst (λ (z : List LabelEntry). Grown g.L.Queue label_ahead z c.args.labels.now c.add_some-3.new.q) e
    (grown_then label_ahead (grown_then label_ahead c.add_some.ensures c.add_some-2.ensures) c.add_some-3.ensures)
