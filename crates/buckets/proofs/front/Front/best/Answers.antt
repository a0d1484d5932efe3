use Rattle.std.proofs.Common.{sym, ◌∙◌, subst}
use Rattle.buckets.specs.Bitmap.{occupied, First}
use Rattle.buckets.proofs.Fronts.{Among, among_new, among_old}
use Rattle.buckets.proofs.front.Front.best.Goals as goal

pub loop-b-preserved-then-leads : goal.loop-b-preserved-then-leads
loop-b-preserved-then-leads g c =
    let o = g.met.E.Entry.sound in
    let cs = c.args.self.now.cells.now in
    let h = c.args.self.now.heads.now in
    let was = c.loop-b.invariant in
    let step = c.in-Some.ensures.steps in (
      tt,
      tt,
      step.0 ∙ was.2,
      λ marked.
          let found = subst (λ h. First (occupied h.bits) c.loop-b.b-iterator.from 256 c.in-Some.b) was.2 step.1.0 in
          subst (λ n. Among o cs h.bits h.first n c.in-Some.b) (sym step.1.1) (among_new o cs h.bits h.first c.loop-b.b-iterator.from c.loop-b.best c.in-Some.b found c.if-leads.ensures (was.3 marked)),
    )

pub loop-b-preserved : goal.loop-b-preserved
loop-b-preserved g c =
    let o = g.met.E.Entry.sound in
    let cs = c.args.self.now.cells.now in
    let h = c.args.self.now.heads.now in
    let was = c.loop-b.invariant in
    let step = c.in-Some.ensures.steps in (
      tt,
      tt,
      step.0 ∙ was.2,
      λ marked.
          let found = subst (λ h. First (occupied h.bits) c.loop-b.b-iterator.from 256 c.in-Some.b) was.2 step.1.0 in
          let w = was.3 marked in
          let behind = λ (d : g.row.E.Denot). c.if-leads.ensures d ((marked c.in-Some.b found.below).0 found.one) ((marked c.loop-b.best w.known).0 w.holds) in
          subst (λ n. Among o cs h.bits h.first n c.loop-b.best) (sym step.1.1) (among_old o cs h.bits h.first c.loop-b.b-iterator.from c.loop-b.best c.in-Some.b found behind w),
    )
