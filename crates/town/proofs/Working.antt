-- The town's facts, computed from its tables.
use Rattle.std.proofs.Common.{refl}
use Rattle.curve.specs.Curve.{along, between, reads}
use Rattle.network.specs.Tables.{tabulated}
use Rattle.town.specs.Facts.{WorkedOut, town_points, town_roads}

pub computed : WorkedOut (tabulated 4 town_roads town_points)
unfolding reads along between
computed = record {
  entered_at_5 = refl;
  entered_at_30 = refl;
  late_over_0 = refl;
  late_over_1 = refl;
  late_over_2 = refl;
  late_over_3 = refl;
}
