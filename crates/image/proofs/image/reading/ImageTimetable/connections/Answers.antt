use Rattle.std.proofs.Common.{sym, ap, ◌∙◌}
use Rattle.image.specs.Format.{connections_in}
use Rattle.image.proofs.Sound.{connections_is}
use Rattle.image.proofs.image.reading.ImageTimetable.connections.Goals as goal

pub returns : goal.returns
returns c = c.connections.ensures ∙ (ap connections_in (c.header.ensures ∙ c.body.ensures) ∙ sym (connections_is c.args.self.now.bytes.now))
