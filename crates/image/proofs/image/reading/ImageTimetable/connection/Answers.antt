use Rattle.std.proofs.Common.{◌<◌, sym, ap, ◌∙◌, arith}
use Rattle.image.specs.Format.{connections_in, connection_of, record_in, record_at}
use Rattle.image.proofs.Sound.{connections_is, connection_at}
use Rattle.image.proofs.image.reading.ImageTimetable.connection.Goals as goal

pub record-requires : goal.record-requires
record-requires c = omega (arith, connections_is c.args.self.now.bytes.now, ap connections_in c.body.ensures)

pub returns : goal.returns
returns c =
    let bs = c.args.self.now.bytes.now in
    let n = c.args.number.0 in
    let k : n < connections_in bs = omega (arith, connections_is bs) in
    (omega arith, c.into.ensures ∙ (ap connection_of (c.record.ensures ∙ ap (λ b. record_in b (record_at b n)) c.body.ensures) ∙ sym (connection_at bs n k)))
