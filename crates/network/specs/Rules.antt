-- The test of a road is its rule.
use Rattle.std.specs.Prelude.{◌≡◌, ℕ, ◌+◌, ◌<◌, ◌≤◌, true, List, length, get_or, drop, Decides, slice_index_or}
use Rattle.std.proofs.Common.{◌∙◌, arith}
use Rattle.std.proofs.lemmas.List.{length-drop, length-take-le, get_or-take, get_or-drop}
use Rattle.std.proofs.lemmas.Bool.{and_from, lt-ltb, le-leb}
use Rattle.std.proofs.lemmas.Bool.Decides.{nat_tests}
use Rattle.curve.specs.declared.points.Point.{Point}
use Rattle.curve.specs.Curve.{no_point, climbs}
use Rattle.curve.specs.Runs.{rises_at, climbing_from_pairs}
use Rattle.network.specs.declared.tables.Road.{Road}
use Rattle.network.specs.Tables.{point_of, KeepsRule, run_of, point_right, run_right, road_right}
use Rattle.network.specs.Runs.{point_tells, right_at, right_tells, points_from_each}

-- what the test of a road tells
pub record Rule (n : ℕ) (points : List Point) (road : Road) : Type 0 where
  pub tail : road.tail < n
  pub head : road.head < n
  pub inside : road.first + road.count ≤ length points
  pub some : 1 ≤ road.count
  pub few : road.count ≤ 48
  pub right : run_right (run_of points road) ≡ true

pub rule_tells : (n : ℕ) (points : List Point) (road : Road) → road_right n points road ≡ true → Rule n points road
rule_tells n points road e = record {
  tail = grind (arith, nat_tests);
  head = grind (arith, nat_tests);
  inside = grind (arith, nat_tests);
  some = grind (arith, nat_tests);
  few = grind (arith, nat_tests);
  right = grind (arith, nat_tests);
}

-- a run inside the table has as many points as its road says
pub run_length : (n : ℕ) (points : List Point) (road : Road) → Rule n points road → length (run_of points road) ≡ road.count
run_length n points road rule =
    let i = rule.inside in
    length-take-le road.count (drop road.first points) (omega (arith, length-drop road.first points))

module _ (n : ℕ) (points : List Point) (road : Road) where
  -- the points of a run are those of its road
  point_is : (i : ℕ) → i < road.count → slice_index_or (run_of points road) i no_point ≡ point_of points road i
  point_is i h = get_or-take road.count (drop road.first points) i no_point h ∙ get_or-drop road.first points i no_point

  pub rule_kept : road_right n points road ≡ true → KeepsRule n points road
  rule_kept e =
      let rule = rule_tells n points road e in
      let run = run_of points road in
      let right = right_tells run rule.right in
      let size = run_length n points road rule in
      let rise : (i : ℕ) → i + 1 < road.count → ((point_of points road i).departure < (point_of points road (i + 1)).departure) × ((point_of points road i).arrival ≤ (point_of points road (i + 1)).arrival) =
      λ i h. rw (← point_is i (omega arith), ← point_is (i + 1) h) (rises_at run i right.climbs (omega arith)) in
      let alone : (i : ℕ) → i < road.count → ((point_of points road i).departure ≤ 100000) × ((point_of points road i).departure < (point_of points road i).arrival) × ((point_of points road i).arrival ≤ (point_of points road i).departure + 10000) =
      λ i h. rw (← point_is i h) (point_tells _ (right_at run i right.points (omega arith))) in
      record {
        tail_below = rule.tail;
        head_below = rule.head;
        inside = rule.inside;
        some = rule.some;
        many = rule.few;
        begins = rw (← point_is 0 rule.some) right.begins;
        rises = λ i h. (rise i h).0;
        never_falls = λ i h. (rise i h).1;
        early = λ i h. (alone i h).0;
        takes_time = λ i h. (alone i h).1;
        not_long = λ i h. (alone i h).2;
      }

  pub rule_tested : KeepsRule n points road → road_right n points road ≡ true
  rule_tested k =
      let run = run_of points road in
      let i = k.inside in
      let size : length run ≡ road.count = length-take-le road.count (drop road.first points) (omega (arith, length-drop road.first points)) in
      let begins : (get_or run 0 no_point).departure ≡ 0 = rw (point_is 0 k.some) k.begins in
      let climb : (i : ℕ) → i + 1 < length run → climbs (get_or run i no_point) (get_or run (i + 1) no_point) ≡ true =
      λ i h. rw (point_is i (omega arith), point_is (i + 1) (omega arith)) (and_from _ _ (lt-ltb _ _ (k.rises i (omega arith))) (le-leb _ _ (k.never_falls i (omega arith)))) in
      let alone : (i : ℕ) → i < length run → point_right (get_or run i no_point) ≡ true =
      λ i h. rw (point_is i (omega arith)) (and_from _ _ (le-leb _ _ (k.early i (omega arith))) (and_from _ _ (lt-ltb _ _ (k.takes_time i (omega arith))) (le-leb _ _ (k.not_long i (omega arith))))) in
      let climbs = climbing_from_pairs run climb in
      let right = points_from_each run alone in
      let t = k.tail_below in let h = k.head_below in let s = k.some in let m = k.many in
      grind (arith, nat_tests)

  pub rule_decided : Decides (road_right n points road) (KeepsRule n points road)
  rule_decided = (rule_kept, rule_tested)
