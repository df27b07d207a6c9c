use Rattle.std.proofs.Common.{arith}
use Rattle.std.proofs.lemmas.Grind.{common_steps}
use Rattle.network.specs.Kinds.{road_right_at}
use Rattle.network.proofs.kinds.Tables.road.Goals as goal

pub returns-clause-keeps_its_rule : goal.returns-clause-keeps_its_rule
returns-clause-keeps_its_rule g c =
    let s = c.args.self.now in
    grind (arith, common_steps, road_right_at g.R.TableRoad.kind s.nodes s.roads.now s.entries.now s.accepted c.args.r)
