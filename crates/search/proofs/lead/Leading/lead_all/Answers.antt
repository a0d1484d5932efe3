use Rattle.std.proofs.Common.{suc, List, sym, subst, add-one, arith, length-append}
use mathlib.Core.List.{map-append}
use lib.ListN.{length-map}
use Rattle.timetable.specs.Table.{connections}
use Rattle.entries.specs.declared.label.LabelEntry.{LabelEntry}
use Rattle.entries.specs.Kinds.{label_ahead}
use Rattle.journeys.specs.Queued.{each, leads_by}
use Rattle.turns.specs.Seen.{seen, waiting}
use Rattle.turns.specs.Puts.{Grown}
use Rattle.turns.proofs.Added.{grown_none, grown_then, ready_more}
use Rattle.turns.proofs.Led.{each-rises}
use Rattle.search.proofs.lead.Leading.lead_all.Goals as goal

pub loop-c-init : goal.loop-c-init
loop-c-init g c = grown_none label_ahead c.requires.in_order

pub lead_by-requires : goal.lead_by-requires
lead_by-requires g c =
    let t = g.T.Means.meaning c.args.self.now.t.now in
    let x = seen c.args.self.now.label in
    let f = leads_by t x in
    record {
      known = omega (arith, c.connections-c-end.ensures, c.loop-c-test.true);
      ready = ready_more label_ahead c.requires c.loop-c.invariant
          (omega (arith, length-map (each f c.loop-c.c) waiting, length-append (f c.loop-c.c) (each f c.loop-c.c), each-rises f (suc c.loop-c.c) (connections t) (omega (arith, c.connections-c-end.ensures, c.loop-c-test.true))));
    }

pub loop-c-preserved : goal.loop-c-preserved
loop-c-preserved g c =
    let f = leads_by (g.T.Means.meaning c.args.self.now.t.now) (seen c.args.self.now.label) in
    rw add-one (subst (λ (z : List LabelEntry). Grown g.L.Queue label_ahead z c.args.labels.now c.lead_by.new.labels) (sym (map-append waiting (f c.loop-c.c) (each f c.loop-c.c)))
    (grown_then label_ahead c.loop-c.invariant c.lead_by.ensures))
