use Rattle.corridor.proofs.Slopes.{lt_le, lt_lt}
use Rattle.corridor.proofs.funnel.Slope.flatter.Goals as goal

pub returns-then-at_most-clause-under_both : goal.returns-then-at_most-clause-under_both
returns-then-at_most-clause-under_both c n m p h = (h, lt_le n m _ _ _ _ c.requires h c.if-at_most.ensures.at_most_or_exceeds)

pub returns-else-at_most-clause-under_both : goal.returns-else-at_most-clause-under_both
returns-else-at_most-clause-under_both c n m p h = (lt_lt n m _ _ _ _ p h c.if-at_most.ensures.at_most_or_exceeds, h)
