use Rattle.graph_laws.proofs.Lowest.{points_in_road_order}
use Rattle.graph_laws.proofs.road_order_stands.Goals as goal

pub returns : goal.returns
returns c = record { points_in_road_order = points_in_road_order }
