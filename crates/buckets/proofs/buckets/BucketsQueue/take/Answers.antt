-- `take` meets its contract.
use Rattle.std.proofs.Common.{◌≡◌, ℕ, ◌-◌, ◌<◌, ◌≤◌, false, ◌∷◌, length, get_or, set, sym, refl, ap, ◌∙◌, subst, arith}
use Rattle.std.proofs.Math.Seq.{map-set_same}
use Rattle.std.proofs.lemmas.List.{get_or-map, length-set, map-set}
use Rattle.buckets.specs.declared.chain.Cell.{Cell}
use Rattle.buckets.specs.Bitmap.{occupied}
use Rattle.buckets.specs.Chains.{nexts, entries}
use Rattle.buckets.specs.InBuckets.{Lodged, Fine, BucketFine, in_cells}
use Rattle.queue.proofs.Bag.{first_least}
use Rattle.buckets.proofs.Pours.{ascends_total}
use Rattle.buckets.proofs.Walks.{next_of}
use Rattle.buckets.proofs.Places.{clear_held, head_cell, unlinked, unlinked_held, taken_out, released, released_held}
use Rattle.buckets.proofs.buckets.BucketsQueue.take.Goals as goal

pub returns-in_err-b-clause-taken : goal.returns-in_err-b-clause-taken
returns-in_err-b-clause-taken g c = λ w. rw c.from_residual.ensures (clear_held g.met.E.Entry.sound w (c.in_err-b.ensures w), refl)

pub returns : goal.returns
returns g c =
    let o = g.met.E.Entry.sound in
    let ahead = g.E.Entry.ahead in
    let minute_of = g.E.Entry.minute_of in
    let q = c.args.self.now in
    let cs = q.cells.now in
    let i = c.first-at.result in
    let cell = c.in_ok-cell.cell in
    let x = cell.entry in
    let next = cell.next in
    let b = c.in_ok-b.b in
    let y = (get_or cs i c.index-self-at.result).entry in
    let told = c.advance.ensures in
    let bits' = c.advance.new.self.bits in
    let lt : i < length cs = c.in_ok-cell.ensures.0 in
    let is = c.in_ok-cell.ensures.1 in
    let after : Cell g.row.E.Denot = record { entry = y; next = q.free } in
    let cs' = set cs i after in
    let nis : next ≡ get_or (nexts cs) i 0 = ap (λ (c : Cell g.row.E.Denot). c.next) is ∙ next_of cs i cell lt in
    let xis : (d : g.row.E.Denot) → x ≡ get_or (entries cs) i d = λ d. ap (λ (c : Cell g.row.E.Denot). c.entry) is ∙ sym (get_or-map (λ (c : Cell g.row.E.Denot). c.entry) cs i cell d lt) in
    let le : length cs ≤ 18446744073709551615 = omega arith in
    let size : length cs' ≡ length cs = length-set cs i after in
    let eis : entries cs' ≡ entries cs = map-set_same (λ (c : Cell g.row.E.Denot). c.entry) cs i after c.index-self-at.result refl in
    let nis' : nexts cs' ≡ set (nexts cs) i q.free = map-set (λ (c : Cell g.row.E.Denot). c.next) cs i after in
    let leads : BucketFine ahead minute_of q → (k : ℕ) → k < 256 → occupied q.heads.bits k ≡ 1 → (d : g.row.E.Denot) → ahead (get_or (entries cs) (get_or q.heads.first k 0) d) x ≡ false = λ w k l oc d.
    subst (λ y. ahead (get_or (entries cs) (get_or q.heads.first k 0) d) y ≡ false) (ap (λ m. get_or (entries cs) m d) (sym c.first-at.ensures) ∙ sym (xis d)) ((c.in_ok-b.ensures w).best k l oc d) in
    let took : (w : BucketFine ahead minute_of q) → in_cells ahead cs q.heads.first ≡ x ∷ in_cells ahead cs' c.advance.new.self.first = λ w.
    let lead = c.in_ok-b.ensures w in
    let bl : b < 256 = lead.known in
    let h = head_cell o w b i bl c.first-at.ensures lt in
    unlinked_held o w bits' b i next h.0 bl h.1 nis le told.here told.others x xis (leads w)
    ∙ ap (λ l. x ∷ l) (sym (ap (in_cells ahead cs') told.first ∙ released_held o (unlinked o w bits' b i next h.0 bl h.1 nis le told.here told.others) cs' size eis nis')) in
    record {
      room = size;
      ordered = λ w.
          let bl : b < 256 = (c.in_ok-b.ensures w).known in
          let h = head_cell o w b i bl c.first-at.ensures lt in
          subst (λ n. Fine ahead (Lodged minute_of n) 0 cs' bits' c.advance.new.self.first i q.fresh c.saturating_sub-self.result) (sym c.minute-self.ensures)
          (subst (λ n. Fine ahead (Lodged minute_of (minute_of x)) 0 cs' bits' c.advance.new.self.first i q.fresh n) (sym c.saturating_sub-self.ensures)
          (subst (λ f. Fine ahead (Lodged minute_of (minute_of x)) 0 cs' bits' f i q.fresh (q.len - 1)) (sym told.first)
          (released o (taken_out o w bits' b i next h.0 bl h.1 nis le told.here told.others x xis (leads w)) cs' size eis nis')));
      taken = took;
      least = λ w. first_least ahead (in_cells ahead cs q.heads.first) x (in_cells ahead cs' c.advance.new.self.first) (ascends_total o _ 256) (took w);
    }
