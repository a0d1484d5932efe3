use Rattle.std.proofs.Common.{length, ap, ◌∙◌, arith}
use Rattle.search.proofs.Turning.{count_small, taken_small, dropped, settling}
use Rattle.search.proofs.plan.Plan.run.Goals as goal

pub write-requires-clause-rank : goal.write-requires-clause-rank
write-requires-clause-rank g c =
    let law = g.T.Means.lawful c.args.self.now.t.now in
    omega (arith, c.args.self.now.every_rank, (taken_small law c.loop-x.invariant.2 (c.in-Some.ensures.taken c.loop-x.invariant.0)).1)

pub write-requires-clause-place : goal.write-requires-clause-place
write-requires-clause-place g c =
    let law = g.T.Means.lawful c.args.self.now.t.now in
    omega (arith, c.args.self.now.every_place, (taken_small law c.loop-x.invariant.2 (c.in-Some.ensures.taken c.loop-x.invariant.0)).2)

pub lead-requires : goal.lead-requires
lead-requires g c =
    let law = g.T.Means.lawful c.args.self.now.t.now in
    let taken = c.in-Some.ensures.taken c.loop-x.invariant.0 in
    let settles = settling law c.loop-x.invariant.2 taken c.settled.ensures (c.in-Some.ensures.least c.loop-x.invariant.0) c.if-not-settled.true in
    record {
      place = (taken_small law c.loop-x.invariant.2 taken).2;
      ready = record { in_order = c.take.ensures.ordered c.loop-x.invariant.0; has_room = omega (arith, c.take.ensures.room, c.loop-x.invariant.1, settles.has_room) };
    }

pub invariant_of-lead : goal.invariant_of-lead
invariant_of-lead g c =
    let law = g.T.Means.lawful c.args.self.now.t.now in
    record { small = (taken_small law c.loop-x.invariant.2 (c.in-Some.ensures.taken c.loop-x.invariant.0)).0 }

pub overflow_add-written : goal.overflow_add-written
overflow_add-written g c = omega (arith, count_small (g.T.Means.lawful c.args.self.now.t.now) c.loop-x.invariant.2)

pub loop-x-smaller-then-not-settled : goal.loop-x-smaller-then-not-settled
loop-x-smaller-then-not-settled g c =
    let law = g.T.Means.lawful c.args.self.now.t.now in
    let taken = c.in-Some.ensures.taken c.loop-x.invariant.0 in
    let settles = settling law c.loop-x.invariant.2 taken c.settled.ensures (c.in-Some.ensures.least c.loop-x.invariant.0) c.if-not-settled.true in
    omega (arith, settles.lowers, ap length taken, ap length c.lead.ensures.holds)

pub loop-x-preserved-then-not-settled : goal.loop-x-preserved-then-not-settled
loop-x-preserved-then-not-settled g c =
    let law = g.T.Means.lawful c.args.self.now.t.now in
    let taken = c.in-Some.ensures.taken c.loop-x.invariant.0 in
    let settles = settling law c.loop-x.invariant.2 taken c.settled.ensures (c.in-Some.ensures.least c.loop-x.invariant.0) c.if-not-settled.true in (
      c.lead.ensures.in_order,
      c.lead.ensures.same_room ∙ c.take.ensures.room ∙ c.loop-x.invariant.1,
      rw (c.write.ensures, c.lead.ensures.holds) settles.keeps,
    )

pub loop-x-preserved : goal.loop-x-preserved
loop-x-preserved g c =
    let law = g.T.Means.lawful c.args.self.now.t.now in
    let taken = c.in-Some.ensures.taken c.loop-x.invariant.0 in (
      c.take.ensures.ordered c.loop-x.invariant.0,
      c.take.ensures.room ∙ c.loop-x.invariant.1,
      dropped law c.loop-x.invariant.2 taken c.settled.ensures (c.in-Some.ensures.least c.loop-x.invariant.0) c.if-not-settled.false,
    )
