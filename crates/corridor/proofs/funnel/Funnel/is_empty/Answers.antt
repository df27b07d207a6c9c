use Rattle.std.proofs.Common.{arith}
use Rattle.corridor.proofs.Slopes.{none_between}
use Rattle.corridor.proofs.Whens.{when_map}
use Rattle.corridor.proofs.funnel.Funnel.is_empty.Goals as goal

pub returns : goal.returns
returns c =
    record { none_or_lowest = when_map c.at_most.result (λ e n m h. none_between _ _ _ _ n m c.args.self.positive e h.0 h.1) (λ h. (omega arith, h)) c.at_most.ensures.at_most_or_exceeds }
