use Rattle.std.proofs.Common.{◌≡◌, length, sym, ◌∙◌, rules, tests}
use Rattle.std.specs.List.{filter, range_with_len}
use Rattle.std.proofs.lemmas.List.{length-map}
use Rattle.std.proofs.lemmas.Iterator.Consumers.{count_from_yields_List}
use Rattle.answers.specs.Rowwise.{row_pair}
use Rattle.questions.proofs.Chosen.{chosen, pairs, listed, chosen_rows}
use Rattle.questions.proofs.rows.LabelRows.count_pairs.Goals as goal

pub returns : goal.returns
returns c =
    let w = c.args.self.now.view in
    let m = c.args.self.now.memory.now in
    let e : c.count.result ≡ length (filter (chosen w m) (range_with_len 0 w.rows)) =
    count_from_yields_List c.filter.result _ c.count.ensures.ran (chosen_rows w m _ c.filter.ensures.source c.filter.ensures.closure (λ x b q k. (search rules, search (rules, tests, k.called.met.0)))) in
    (pairs w m w.rows, listed w m w.rows, e ∙ sym (length-map (filter (chosen w m) (range_with_len 0 w.rows)) (row_pair w m)))
