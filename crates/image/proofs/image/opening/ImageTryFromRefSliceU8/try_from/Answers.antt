use Rattle.std.proofs.Common.{ap}
use Rattle.image.specs.Format.{opened_by, table_in}
use Rattle.image.proofs.Promised.{opens}
use Rattle.image.proofs.image.opening.ImageTryFromRefSliceU8.try_from.Goals as goal

pub returns : goal.returns
returns c =
    let bs = c.args.bytes.now in
    opens bs (table_in bs) (λ i. (c.type_inv.bytes i).fits) (ap (λ o. opened_by o (table_in bs)) c.in_ok-check.ensures)
