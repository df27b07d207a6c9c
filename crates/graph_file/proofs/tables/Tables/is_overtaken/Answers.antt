use Rattle.std.proofs.Common.{leb, rules}
use Rattle.graph_file.proofs.Scan.{unordered_falls}
use Rattle.graph_file.proofs.tables.Tables.is_overtaken.Goals as goal
use Rattle.std.proofs.lemmas.Fn.{always_returns_same}
use borrow.Author.Tests.{tests}

pub returns : goal.returns
returns c =
    record { one_falls = unordered_falls _ c.is_sorted_by.result (c.is_sorted_by.ensures.cases (λ p n. leb p.arrival n.arrival) (always_returns_same _ _ _ (λ a r q k. search (rules, tests)))) }
