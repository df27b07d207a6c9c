use Rattle.std.proofs.Common.{arith}
use Rattle.corridor.proofs.Slopes.{le_le}
use Rattle.corridor.proofs.funnel.Slope.steeper.Goals as goal

pub returns-then-at_most-clause-over_both : goal.returns-then-at_most-clause-over_both
returns-then-at_most-clause-over_both c n m h = (le_le _ _ _ _ n m c.requires.1 c.if-at_most.ensures.at_most_or_exceeds h, h)

pub returns-else-at_most-clause-over_both : goal.returns-else-at_most-clause-over_both
returns-else-at_most-clause-over_both c n m h = (h, le_le _ _ _ _ n m c.requires.0 (omega (arith, c.if-at_most.ensures.at_most_or_exceeds)) h)
