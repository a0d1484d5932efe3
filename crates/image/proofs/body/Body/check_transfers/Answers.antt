use Rattle.std.proofs.Common.{◌≡◌, ap, ◌∙◌, rules, subst}
use Rattle.image.specs.Format.{stations_in, first, transfer_fault, Tells}
use Rattle.image.proofs.Tried.{tried}
use Rattle.image.proofs.body.Body.check_transfers.Goals as goal

pub returns : goal.returns
returns c =
    let bs = c.args.self.now.bytes.now in
    let e : c.stations.result ≡ stations_in bs = c.stations.ensures ∙ ap stations_in c.header.ensures in
    let h = c.try_for_each.ensures.ran in
    subst (λ n. Tells (first (transfer_fault bs) 0 n) c.try_for_each.result) e (tried _ _ (transfer_fault bs) c.stations.result (λ x r q l k. search rules) c.try_for_each.result c.try_for_each.new.self h)
