use Rattle.std.proofs.Common.{rules}
use Rattle.std.proofs.lemmas.Iterator.{cases_from_all, YieldsList-from_slice}
use borrow.Author.Tests.{tests}
use Rattle.forming.proofs.Points.{Timely, prompt_cases}
use Rattle.forming.proofs.labels.is_prompt.Goals as goal

pub returns : goal.returns
returns c = record {
  prompt_or_not = prompt_cases c.args.limit c.args.pairs.now _ (cases_from_all _ _ _ (Timely c.args.limit) (λ p. Timely c.args.limit p → ⊥) c.all.ensures.ran
      (YieldsList-from_slice c.args.pairs.now cc) (λ x q k. search (rules, tests)) (λ x q k. search (rules, tests)));
}
