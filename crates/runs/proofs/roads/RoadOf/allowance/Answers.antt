use Rattle.std.proofs.Common.{◌≤◌, sym, ◌∙◌, mul-le-mul_right, mul-le-mul_left, arith}
use Rattle.runs.specs.Figured.{right_tells}
use Rattle.runs.proofs.Told.{some_is}
use Rattle.runs.proofs.roads.RoadOf.allowance.Goals as goal

pub overflow_mul-result : goal.overflow_mul-result
overflow_mul-result g c =
    let net = g.N.Network.means c.args.self.now.net.now in
    let e = (some_is _ _ _ (sym c.least.ensures.least_as_meant ∙ c.unwrap.ensures)).1 in
    let few = (g.N.Network.lawful c.args.self.now.net.now).early c.args.self.now.road 0 c.args.self.now.is_one in
    let most = (g.N.Network.lawful c.args.self.now.net.now).late c.args.self.now.road 0 c.args.self.now.is_one in
    let small : c.unwrap.result ≤ 10000 = omega (arith, e, few, most) in
    let few : c.allowance.result ≤ 10000 = omega (arith, c.allowance.ensures.allowance_held, (right_tells c.args.heading.figures c.args.heading.lawful).allowance) in
    omega (arith, mul-le-mul_left c.allowance.result small, mul-le-mul_right 10000 few)
