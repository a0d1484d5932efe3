use Rattle.std.proofs.Common.{string_bytes, sym, ◌∙◌}
use Rattle.listing.proofs.Steps.{below_train}
use Rattle.listing.proofs.lines.connection_lines.Goals as goal

pub returns : goal.returns
returns g c =
    below_train (g.T.Means.meaning c.args.t.now) c.args.number c.period.result c.connection_at-c.result (string_bytes c.in_ok-text.text) _ (string_bytes c.in_ok-line.line) _
    c.connection_at-c.ensures c.period.ensures (sym c.if-not-begins_train.false ∙ c.begins_train.ensures) c.in_ok-text.ensures c.in_ok-line.ensures c.as_str.ensures.value c.in_ok-push_str.ensures.bytes
