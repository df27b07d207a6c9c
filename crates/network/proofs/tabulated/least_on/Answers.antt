use Rattle.std.proofs.Common.{ap, rules, unwrap_or}
use Rattle.std.proofs.lemmas.Iterator.{YieldsList-from_slice, YieldsList-from_map}
use Rattle.std.proofs.lemmas.Iterator.Consumers.{min_from_yields_List}
use Rattle.curve.specs.Curve.{span}
use Rattle.network.proofs.tabulated.least_on.Goals as goal

pub returns : goal.returns
returns c =
    let least = min_from_yields_List c.map.result _ c.min.ensures.ran (YieldsList-from_map _ span (YieldsList-from_slice c.args.run.now.points.now cc) c.map.ensures.closure (λ x r q k. search rules)) in
    record { smallest = ap (λ o. unwrap_or o 0) (rw c.unwrap.ensures at least) }
