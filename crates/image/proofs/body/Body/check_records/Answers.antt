use Rattle.std.proofs.Common.{◌≡◌, ap, ◌∙◌, rules, subst}
use Rattle.image.specs.Format.{connections_in, first, record_fault, Tells}
use Rattle.image.proofs.Tried.{tried}
use Rattle.image.proofs.body.Body.check_records.Goals as goal

pub returns : goal.returns
returns c =
    let bs = c.args.self.now.bytes.now in
    let e : c.connections.result ≡ connections_in bs = c.connections.ensures ∙ ap connections_in c.header.ensures in
    let h = c.try_for_each.ensures.ran in
    subst (λ n. Tells (first (record_fault bs) 0 n) c.try_for_each.result) e (tried _ _ (record_fault bs) c.connections.result (λ x r q l k. search rules) c.try_for_each.result c.try_for_each.new.self h)
