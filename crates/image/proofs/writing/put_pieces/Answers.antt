use Rattle.std.proofs.Common.{◌+◌, ◌*◌, ◌<◌, length, ap, ◌∙◌, arith, rules}
use Rattle.image.proofs.Pasted.{put_one}
use Rattle.image.proofs.writing.put_pieces.Goals as goal

pub loop-i-preserved : goal.loop-i-preserved
loop-i-preserved g c = λ xs long each.
    let l : c.loop-i.i < c.args.n = omega arith in
    let h = c.loop-i.invariant xs long each in
    put_one c.args.out.now c.args.place c.args.width c.loop-i.i xs c.loop-i.out c.put.new.out c.as_slice.result.now _ (omega arith) (omega arith) h.0 h.1 (ap (λ k. c.args.place + c.args.width * k) c.from.ensures) (c.as_slice.ensures ∙ each c.loop-i.i c.piece.result l (search rules)) (ap length c.as_slice.ensures ∙ c.requires.wide c.loop-i.i c.piece.result l (search rules)) c.put.ensures
