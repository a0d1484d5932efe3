use Rattle.std.proofs.Common.{◌<◌, sym, ap, ◌∙◌, arith}
use Rattle.image.specs.Format.{stations_in, transfer_in}
use Rattle.image.proofs.Sound.{stations_is, transfer-at}
use Rattle.image.proofs.image.reading.ImageTimetable.transfer.Goals as goal

pub transfer-requires : goal.transfer-requires
transfer-requires c = omega (arith, stations_is c.args.self.now.bytes.now, ap stations_in c.body.ensures)

pub returns : goal.returns
returns c =
    let bs = c.args.self.now.bytes.now in
    let k : c.args.station.0 < stations_in bs = omega (arith, stations_is bs) in
    (omega arith, c.transfer.ensures ∙ (ap (λ b. transfer_in b c.args.station.0) c.body.ensures ∙ sym (transfer-at bs c.args.station.0 k)))
