use Rattle.std.proofs.Common.{sym, ap, ◌∙◌}
use Rattle.image.specs.Format.{stations_in}
use Rattle.image.proofs.Sound.{stations_is}
use Rattle.image.proofs.image.reading.ImageTimetable.stations.Goals as goal

pub returns : goal.returns
returns c = c.stations.ensures ∙ (ap stations_in (c.header.ensures ∙ c.body.ensures) ∙ sym (stations_is c.args.self.now.bytes.now))
