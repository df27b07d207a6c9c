-- Exactly the tables that keep their rule are accepted, and they mean a lawful network.
use Rattle.std.specs.Prelude.{◌≡◌, ℕ, ◌+◌, ◌<◌, ◌≤◌, true, List, length, get_or, None, Decides, slice_index_or}
use Rattle.std.proofs.Common.{arith}
use Rattle.curve.specs.declared.points.Point.{Point}
use Rattle.curve.specs.Curve.{no_point, reads}
use Rattle.network.specs.declared.tables.Road.{Road}
use Rattle.network.specs.Net.{Lawful, Attained}
use Rattle.network.specs.Judged.{Lowest, lowest, lowest_is}
use Rattle.network.specs.Kinds.{LawfulKind, RightRoads, accepted_right, right_accepted, road_right_at, tables_lawful}
use Rattle.network.specs.Tables.{no_road, KeepsRule, run_of, road_kind, road_right, tables_fault, tabulated}
use Rattle.network.specs.Rules.{Rule, rule_tells, run_length, rule_decided}
use Rattle.network.specs.Runs.{right_tells, run_takes, run_early, run_late, run_order, run_attained}

-- of a road that keeps its rule
module _ (n : ℕ) (points : List Point) (road : Road) (kept : road_right n points road ≡ true) where
  rule : Rule n points road
  rule = rule_tells n points road kept

  pub road_some : 0 < length (run_of points road)
  road_some = let s = rule.some in omega (arith, run_length n points road rule)

  pub road_begins : (get_or (run_of points road) 0 no_point).departure ≡ 0
  road_begins = (right_tells (run_of points road) rule.right).begins

  pub road_late : (x : ℕ) → reads (run_of points road) x ≤ x + 10000
  road_late x = run_late (run_of points road) rule.right road_some x

pub roads_lawful : LawfulKind road_kind
roads_lawful n points road kept =
    let rule = rule_tells n points road kept in
    let some = road_some n points road kept in
    record {
      tail_below = rule.tail;
      head_below = rule.head;
      takes = run_takes (run_of points road) rule.right some;
      early = run_early (run_of points road) rule.right some;
      late = run_late (run_of points road) rule.right some;
      order = run_order (run_of points road) rule.right some;
    }

-- no road's least is less than it need be
pub tables_attain : (n : ℕ) (roads : List Road) (points : List Point) → tables_fault n roads points ≡ None → (r : ℕ) → r < length roads → Attained (tabulated n roads points) r
tables_attain n roads points accepted r h =
    let road = slice_index_or roads r no_road in
    let kept = road_right_at road_kind n roads points accepted r h in
    let a = run_attained (run_of points road) (rule_tells n points road kept).right (road_some n points road kept) in
    record { minute = a.0; exact = a.1 }

-- tables of a right size whose roads keep their rule
abbrev pub RightTables : ℕ → List Road → List Point → Type 0
RightTables = RightRoads road_kind KeepsRule

-- Exactly the tables of a right size whose roads keep their rule are accepted, and else the road that a refusal names
-- is the lowest that breaks its rule. Accepted tables mean a lawful network, no road of which has a least that no
-- crossing takes.
pub record TablesLaws : Type 0 where
  pub rule_tested : (n : ℕ) (points : List Point) (road : Road) → Decides (road_right n points road) (KeepsRule n points road)
  pub right_accepted : (n : ℕ) (roads : List Road) (points : List Point) → RightTables n roads points → tables_fault n roads points ≡ None
  pub accepted_right : (n : ℕ) (roads : List Road) (points : List Point) → tables_fault n roads points ≡ None → RightTables n roads points
  pub lowest_named : (n : ℕ) (roads : List Road) (points : List Point) → Lowest (road_right n points) no_road roads (lowest (road_right n points) roads)
  pub lawful : (n : ℕ) (roads : List Road) (points : List Point) → tables_fault n roads points ≡ None → Lawful (tabulated n roads points)
  pub attained : (n : ℕ) (roads : List Road) (points : List Point) → tables_fault n roads points ≡ None → (r : ℕ) → r < length roads → Attained (tabulated n roads points) r

pub tables_laws : TablesLaws
tables_laws = record {
  rule_tested = rule_decided;
  right_accepted = right_accepted road_kind KeepsRule rule_decided;
  accepted_right = accepted_right road_kind KeepsRule rule_decided;
  lowest_named = λ n roads points. lowest_is (road_right n points) no_road roads;
  lawful = λ n roads points. tables_lawful road_kind n roads points roads_lawful;
  attained = tables_attain;
}
