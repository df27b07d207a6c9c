-- Exactly the timetables that keep their rule are accepted, and they mean a lawful network.
use Rattle.std.specs.Prelude.{◌≡◌, ℕ, ◌+◌, ◌<◌, true, List, length, get_or, None, Decides, slice_index_or}
use Rattle.std.proofs.Common.{ap, arith}
use Rattle.network.specs.Net.{Lawful, Attained}
use Rattle.network.specs.Judged.{Lowest, lowest, lowest_is}
use Rattle.network.specs.Kinds.{LawfulKind, RightRoads, accepted_right, right_accepted, road_right_at, tables_lawful}
use Rattle.timetable.specs.declared.tables.Interval.{Interval}
use Rattle.timetable.specs.declared.tables.TimedRoad.{TimedRoad}
use Rattle.timetable.specs.Timetables.{no_road, Enters, entry, KeepsRule, run_of, road_right, timed_kind, tables_fault, timetabled}
use Rattle.timetable.specs.Entries.{Entered, entry_entered, enters_order, enters_once}
use Rattle.timetable.specs.Rules.{Rule, rule_tells, run_length, rule_decided}

-- of a road that keeps its rule
module _ (n : ℕ) (intervals : List Interval) (road : TimedRoad) (kept : road_right n intervals road ≡ true) where
  rule : Rule n intervals road
  rule = rule_tells n intervals road kept

  pub road_some : 0 < length (run_of intervals road)
  road_some = let s = rule.some in omega (arith, run_length n intervals road rule)

  road_entered : (x : ℕ) → Entered road.period (run_of intervals road) x (entry road.period (run_of intervals road) x)
  road_entered x = entry_entered road.period (run_of intervals road) x rule.ascends road_some

pub timed_roads_lawful : LawfulKind timed_kind
timed_roads_lawful n intervals road kept =
    let rule = rule_tells n intervals road kept in
    let entered = road_entered n intervals road kept in
    record {
      tail_below = rule.tail;
      head_below = rule.head;
      takes = rule.time.0;
      early = λ x. let f = (entered x).enters.from in omega arith;
      late = λ x. let s = (entered x).soon in let p = rule.period.1 in let t = rule.time.1 in omega arith;
      order = λ x y h. let o = enters_order _ _ x y _ _ (entered x).enters (entered y).enters h in omega arith;
    }

module _ (n : ℕ) (roads : List TimedRoad) (intervals : List Interval) (accepted : tables_fault n roads intervals ≡ None) where
  pub entered_at : (r x : ℕ) → r < length roads → Entered (get_or roads r no_road).period (run_of intervals (slice_index_or roads r no_road)) x (entry (get_or roads r no_road).period (run_of intervals (slice_index_or roads r no_road)) x)
  entered_at r x h = road_entered n intervals (slice_index_or roads r no_road) (road_right_at timed_kind n roads intervals accepted r h) x

  -- whoever is at the road when it opens crosses it in its crossing time
  pub timetables_attain : (r : ℕ) → r < length roads → Attained (timetabled n roads intervals) r
  timetables_attain r h =
      let y = entry (get_or roads r no_road).period (run_of intervals (slice_index_or roads r no_road)) 0 in
      let there = (entered_at r 0 h).enters in
      let again : Enters (get_or roads r no_road).period (run_of intervals (slice_index_or roads r no_road)) y y =
      record { from = omega arith; opened = there.opened; first = λ z a b. absurd (omega arith) } in
      record {
        minute = y;
        exact = ap (λ (e : ℕ). e + (get_or roads r no_road).time) (enters_once _ _ y _ y (entered_at r y h).enters again);
      }

-- tables of a right size whose roads keep their rule
abbrev pub RightTables : ℕ → List TimedRoad → List Interval → Type 0
RightTables = RightRoads timed_kind KeepsRule

-- when a vehicle at the road r at minute x enters it
abbrev pub EntersRoad : List TimedRoad → List Interval → ℕ → ℕ → ℕ → Type 0
EntersRoad roads intervals r x y = Enters (get_or roads r no_road).period (run_of intervals (slice_index_or roads r no_road)) x y

-- Exactly the tables of a right size whose roads keep their rule are accepted, and else the road that a refusal names
-- is the lowest that breaks its rule. Accepted tables mean a lawful network: every road opens again, and whoever is
-- there enters it at the first minute at which it is open and arrives after its crossing time.
pub record TimetableLaws : Type 0 where
  pub rule_tested : (n : ℕ) (intervals : List Interval) (road : TimedRoad) → Decides (road_right n intervals road) (KeepsRule n intervals road)
  pub right_accepted : (n : ℕ) (roads : List TimedRoad) (intervals : List Interval) → RightTables n roads intervals → tables_fault n roads intervals ≡ None
  pub accepted_right : (n : ℕ) (roads : List TimedRoad) (intervals : List Interval) → tables_fault n roads intervals ≡ None → RightTables n roads intervals
  pub lowest_named : (n : ℕ) (roads : List TimedRoad) (intervals : List Interval) → Lowest (road_right n intervals) no_road roads (lowest (road_right n intervals) roads)
  pub lawful : (n : ℕ) (roads : List TimedRoad) (intervals : List Interval) → tables_fault n roads intervals ≡ None → Lawful (timetabled n roads intervals)
  pub opens : (n : ℕ) (roads : List TimedRoad) (intervals : List Interval) → tables_fault n roads intervals ≡ None → (r x : ℕ) → r < length roads → (y : ℕ) × EntersRoad roads intervals r x y
  pub enters : (n : ℕ) (roads : List TimedRoad) (intervals : List Interval) → tables_fault n roads intervals ≡ None → (r x y : ℕ) → r < length roads → EntersRoad roads intervals r x y → (timetabled n roads intervals).cross r x ≡ y + (get_or roads r no_road).time
  pub attained : (n : ℕ) (roads : List TimedRoad) (intervals : List Interval) → tables_fault n roads intervals ≡ None → (r : ℕ) → r < length roads → Attained (timetabled n roads intervals) r

pub timetable_laws : TimetableLaws
timetable_laws = record {
  rule_tested = rule_decided;
  right_accepted = right_accepted timed_kind KeepsRule rule_decided;
  accepted_right = accepted_right timed_kind KeepsRule rule_decided;
  lowest_named = λ n roads intervals. lowest_is (road_right n intervals) no_road roads;
  lawful = λ n roads intervals. tables_lawful timed_kind n roads intervals timed_roads_lawful;
  opens = λ n roads intervals e r x h. (_, (entered_at n roads intervals e r x h).enters);
  enters = λ n roads intervals e r x y h entering.
      ap (λ (e : ℕ). e + (get_or roads r no_road).time) (enters_once _ _ x _ y (entered_at n roads intervals e r x h).enters entering);
  attained = timetables_attain;
}
