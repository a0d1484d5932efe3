use Rattle.std.proofs.Common.{◌≡◌, ◌+◌, ◌<◌, length, sym, ap, ◌∙◌, subst, arith}
use Rattle.buckets.specs.Chains.{Chain, nexts, Linked}
use Rattle.buckets.specs.InBuckets.{Lodged, Fine, Reserved, in_cells, BucketReserved}
use Rattle.buckets.proofs.Places.{placed, placed_held, not_full, chain_bucket, short, lowered}
use Rattle.buckets.proofs.buckets.Buckets.place.Goals as goal

pub returns : goal.returns
returns g c =
    let o = g.met.E.Entry.sound in
    let ahead = g.E.Entry.ahead in
    let minute_of = g.E.Entry.minute_of in
    let q = c.args.self.now in
    let cs = q.cells.now in
    let new = c.args.new in
    let e = c.args.e in
    let b = c.bucket_of-b.result in
    let bl : b < 256 = c.bucket_of-b.type_inv in
    let cs' = c.link-start.new.cells in
    let start = c.link-start.result in
    let size : length cs' ≡ length cs = c.link-start.auto.cells in
    let told = c.fill.ensures in
    let low' = c.min-low.result in
    let to : BucketReserved ahead minute_of new q → Reserved ahead (Lodged minute_of low') new cs q.heads.bits q.heads.first q.free q.fresh q.len = λ r. lowered o r low' (omega arith) in
    let here : Lodged minute_of low' b e = (sym c.bucket_of-b.ensures, omega arith) in
    let lk : (r : Reserved ahead (Lodged minute_of low') new cs q.heads.bits q.heads.first q.free q.fresh q.len) → Linked ahead cs cs' (r.fine.chains b) new e start = λ r.
    c.link-start.ensures.linked (r.fine.chains b) (subst (λ m. Chain (nexts cs) m (r.fine.chains b)) (sym c.first-head.ensures) (chain_bucket o r.fine b bl)) (r.loose b (omega arith)) (short o r.fine b (omega arith)) in
    record {
      room = size;
      ordered = λ r₀.
          let r = to r₀ in
          let low : q.len < length cs = not_full o r in
          let len_is : c.saturating_add-self.result ≡ q.len + 1 = omega (arith, c.saturating_add-self.ensures) in
          subst (λ n. Fine ahead (Lodged minute_of low') 0 cs' c.fill.new.self.bits c.fill.new.self.first q.free q.fresh n) (sym len_is)
          (subst (λ f. Fine ahead (Lodged minute_of low') 0 cs' c.fill.new.self.bits f q.free q.fresh (q.len + 1)) (sym told.first)
          (placed o r cs' c.fill.new.self.bits b start e bl here (lk r) size c.link-start.ensures.within told.here told.others));
      held = λ r₀.
          let r = to r₀ in
          ap (in_cells ahead cs') told.first ∙ placed_held o r cs' c.fill.new.self.bits b start e bl here (lk r) size c.link-start.ensures.within told.here told.others;
    }
