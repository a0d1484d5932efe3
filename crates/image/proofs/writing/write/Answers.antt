use Rattle.std.proofs.Common.{◌≡◌, ◌+◌, ◌*◌, ◌++◌, [], map, length, drop, sym, refl, ap, ◌∙◌, ap₂, arith}
use Rattle.std.proofs.lemmas.List.{length-map, get_or-map}
use lib.Seq.{paste}
use Rattle.std.proofs.lemmas.Result.{err_from_is_err_and}
use Rattle.std.specs.List.{concat}
use Rattle.refusals.specs.declared.refusal.Refusal.TheVariants.{ShortOutput}
use Rattle.timetable.specs.Table.{stations, connections, no_connection}
use Rattle.image.specs.Written.{number_bytes, record_bytes, header_bytes, header_with, written}
use Rattle.image.proofs.Pasted.{length-written, concat-map, whole}
use Rattle.image.proofs.Promised.{writes}
use Rattle.image.proofs.writing.write.Goals as goal

pub returns-in_err-enough : goal.returns-in_err-enough
returns-in_err-enough g c =
    let t = g.T.Means.meaning c.args.t.now in
    let e : c.record_place-needed.result ≡ length (written t) = omega (arith, length-written t, ap (λ n. n.stations) c.of-counts.ensures, ap (λ n. n.connections) c.of-counts.ensures) in
    let s = c.in_err-enough.ensures in
    let p = err_from_is_err_and c.from_residual.result c.from_residual.ensures.1 in
    rw (p.1, p.2) (omega (arith, s.0), s.1 ∙ ap ShortOutput e, refl)

pub returns : goal.returns
returns g c =
    let t = g.T.Means.meaning c.args.t.now in
    let d = c.args.out.now in
    let n = c.of-counts.result in
    let s : n.stations ≡ stations t = ap (λ n. n.stations) c.of-counts.ensures in
    let k : n.connections ≡ connections t = ap (λ n. n.connections) c.of-counts.ensures in
    let e : c.record_place-needed.result ≡ length (written t) = omega (arith, length-written t, s, k) in
    let header : c.put.new.out ≡ paste d 0 (header_bytes t) 16 = c.put.ensures ∙ ap (λ b. paste d 0 b (length b)) (c.header_bytes.ensures ∙ ap header_with c.of-counts.ensures) in
    let a = c.put_pieces.ensures (map number_bytes t.transfers) (length-map t.transfers number_bytes ∙ sym s) (λ i r l p. p ∙ sym (get_or-map number_bytes t.transfers i 0 [] (omega (arith, s)))) in
    let front : c.transfer_place.result ≡ 16 = omega arith in
    let transfers = a ∙ (ap (λ q. paste c.put.new.out q (concat (map number_bytes t.transfers)) (2 * n.stations)) front ∙ ap₂ (λ b m. paste c.put.new.out 16 b (2 * m)) (concat-map number_bytes t.transfers) s) in
    let b = c.put_pieces-2.ensures (map record_bytes t.list) (length-map t.list record_bytes ∙ sym k) (λ i r l p. p ∙ sym (get_or-map record_bytes t.list i no_connection [] (omega (arith, k)))) in
    let place : c.record_place.result ≡ 16 + 2 * stations t = omega (arith, s) in
    let records = b ∙ (ap (λ q. paste c.put_pieces.new.out q (concat (map record_bytes t.list)) (12 * n.connections)) place ∙ ap₂ (λ l m. paste c.put_pieces.new.out (16 + 2 * stations t) l (12 * m)) (concat-map record_bytes t.list) k) in
    let all = whole t d c.put.new.out c.put_pieces.new.out c.put_pieces-2.new.out (omega (arith, c.in_ok-enough.ensures)) header transfers records in
    writes t (g.T.Means.lawful c.args.t.now) d c.put_pieces-2.new.out c.record_place-needed.result e (all ∙ ap (λ m. written t ++ drop m d) (sym e))
