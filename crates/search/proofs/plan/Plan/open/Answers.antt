use Rattle.std.proofs.Common.{◌≡◌, ℕ, [], ◌∷◌, ◌∙◌, subst, arith}
use Rattle.entries.specs.Kinds.{label_ahead}
use Rattle.journeys.specs.Search.{entry, nowhere}
use Rattle.turns.specs.Seen.{waiting}
use Rattle.turns.specs.Puts.{put_all}
use Rattle.turns.proofs.Openings.{has_room, opens_more, opened_turn}
use Rattle.search.proofs.plan.Plan.open.Goals as goal

pub add-requires : goal.add-requires
add-requires g c =
    let law = g.T.Means.lawful c.args.self.now.t.now in
    let room = has_room law c.loop-first.invariant.4 (c.in-Some.ensures.taken c.loop-first.invariant.0) {room = g.L.Queue.room c.loop-first.labels} (omega (arith, c.requires.labels.has_room, c.loop-first.invariant.3)) in
    record { in_order = c.loop-first.invariant.1; has_room = omega (arith, room) }

pub loop-first-preserved : goal.loop-first-preserved
loop-first-preserved g c =
    let law = g.T.Means.lawful c.args.self.now.t.now in (
      c.take.ensures.ordered c.loop-first.invariant.0,
      c.add.ensures.in_order,
      c.take.ensures.room ∙ c.loop-first.invariant.2,
      c.add.ensures.same_room ∙ c.loop-first.invariant.3,
      opens_more law c.loop-first.invariant.4 (c.in-Some.ensures.taken c.loop-first.invariant.0) c.open_row.ensures
          (subst (λ (n : ℕ). g.L.Queue.bag c.add.new.q ≡ put_all label_ahead (waiting (entry c.in-Some.first.minute c.loop-first.rank n nowhere) ∷ []) (g.L.Queue.bag c.loop-first.labels)) c.place_of.ensures c.add.ensures.holds),
    )

pub returns-clause-opened : goal.returns-clause-opened
returns-clause-opened g c =
    let law = g.T.Means.lawful c.args.self.now.t.now in
    opened_turn law (rw (c.in_default.ensures.taken c.loop-first.invariant.0).0 at c.loop-first.invariant.4) (omega (arith, c.requires.labels.has_room, c.loop-first.invariant.3))
