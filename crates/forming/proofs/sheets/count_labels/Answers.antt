use Rattle.std.proofs.Common.{rules, sym, ◌∙◌, arith}
use Rattle.std.proofs.lemmas.Iterator.{YieldsList-from_range}
use Rattle.std.proofs.lemmas.Iterator.Consumers.{count_from_yields_List, YieldsList-from_filter}
use Rattle.std.proofs.lemmas.List.Sums.{length-filter}
use borrow.Author.Tests.{tests}
use Rattle.std.specs.List.{range_with_len}
use Rattle.runs.specs.Sheet.{labelled}
use Rattle.forming.proofs.Counting.{labels_over}
use Rattle.forming.proofs.sheets.count_labels.Goals as goal

pub returns-clause-labels_counted : goal.returns-clause-labels_counted
returns-clause-labels_counted c =
    let f = c.args.labels.now.heading.figures in
    let rows = c.args.labels.now.rows.now in
    count_from_yields_List c.filter.result _ c.count.ensures.ran
    (YieldsList-from_filter _ (labelled f rows) (YieldsList-from_range 0 f.nodes f.nodes (cc) (omega arith)) c.filter.ensures.closure (λ x r q k. search (rules, tests)))
    ∙ length-filter (labelled f rows) (range_with_len 0 f.nodes) ∙ sym (labels_over f rows f.nodes)
