-- `link` meets its contract.
use Rattle.std.proofs.Common.{ℕ, get_or, set, sym, subst}
use Rattle.buckets.specs.declared.chain.Cell.{Cell}
use Rattle.buckets.specs.Chains.{Linked}
use Rattle.buckets.proofs.Walks.{linked_first, linked_behind, next_of}
use Rattle.buckets.proofs.chain.link.Goals as goal

pub returns-then-not-passes-clause-linked : goal.returns-then-not-passes-clause-linked
returns-then-not-passes-clause-linked g c = λ is chain out le. linked_first g.met.E.Entry.sound c.args.cells.now is c.args.head c.args.new c.args.e chain out c.requires c.if-not-passes.ensures

pub returns-clause-linked : goal.returns-clause-linked
returns-clause-linked g c = λ is chain out le.
    let cs = c.args.cells.now in
    let x = c.seek-at.result in
    let new = c.args.new in
    let e = c.args.e in
    let d = c.index-cells-at-2.result in
    let cell : ℕ → Cell g.row.E.Denot = λ n. record { entry = e; next = n } in
    subst (λ n. Linked g.E.Entry.ahead cs (set (set cs new (cell n)) x (record { entry = (get_or (set cs new (cell n)) x d).entry; next = new })) is new e c.args.head)
    (sym (next_of cs x c.index-cells-at.result c.seek-at.ensures.within))
    (linked_behind g.met.E.Entry.sound cs is c.args.head new e chain out c.requires x d (c.seek-at.ensures.sought is chain le c.if-not-passes.ensures.1))
