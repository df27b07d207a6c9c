-- Timetabled roads: when they may be entered, the rule of a road, and what a table means.
use Rattle.std.specs.Prelude.{◌≡◌, ℕ, ◌+◌, ◌-◌, ◌%◌, ◌<◌, ◌≤◌, max, Bool, true, false, cond, ◌&&◌, ◌||◌, List, [], ◌∷◌, length, get_or, take, drop, Option, nat_le, nat_lt, slice_index_or}
use Rattle.refusal.specs.declared.Refusal.{Refusal}
use Rattle.network.specs.Net.{Net}
use Rattle.network.specs.Kinds.{Kind, fault, meant}
use Rattle.timetable.specs.declared.tables.Interval.{Interval}
use Rattle.timetable.specs.declared.tables.TimedRoad.{TimedRoad}

-- what stands where no interval and no road does
abbrev pub no_interval : Interval
no_interval = record { opens = 0; closes = 0 }

abbrev pub no_road : TimedRoad
no_road = record { tail = 0; head = 0; period = 0; time = 0; first = 0; count = 0 }

-- minute k of the period lies in an interval, both ends included
abbrev pub inside : List Interval → ℕ → Bool
inside [] k = false
inside (i ∷ rest) k = (nat_le i.opens k && nat_le k i.closes) || inside rest k

-- y is the first minute from x on whose remainder by the period lies in an interval
pub record Enters (period : ℕ) (intervals : List Interval) (x y : ℕ) : Type 0 where
  pub from : x ≤ y
  pub opened : inside intervals (y % period) ≡ true
  pub first : (z : ℕ) → x ≤ z → z < y → inside intervals (z % period) ≡ false

-- the first minute from k on that lies in an interval; `next` where there is none
abbrev pub opening : ℕ → List Interval → ℕ → ℕ
opening next [] k = next
opening next (i ∷ rest) k = cond (nat_le k i.closes) (max k i.opens) (opening next rest k)

-- when a vehicle that is there at x enters: in x's period, or when the next one first opens
abbrev pub entry : ℕ → List Interval → ℕ → ℕ
entry period intervals x = x - x % period + opening (period + (get_or intervals 0 no_interval).opens) intervals (x % period)

-- the i-th interval of a road
abbrev pub interval_of : List Interval → TimedRoad → ℕ → Interval
interval_of intervals road i = slice_index_or intervals (road.first + i) no_interval

-- The rule of a road: its ends are nodes, its period and its crossing time are 1 to 5,000 minutes, and it has one or
-- more intervals, which lie inside the table. Each closes within the period, no earlier than it opens, and the next
-- opens after that.
pub record KeepsRule (n : ℕ) (intervals : List Interval) (road : TimedRoad) : Type 0 where
  pub tail_below : road.tail < n
  pub head_below : road.head < n
  pub period : (1 ≤ road.period) × (road.period ≤ 5000)
  pub time : (1 ≤ road.time) × (road.time ≤ 5000)
  pub inside : road.first + road.count ≤ length intervals
  pub some : 1 ≤ road.count
  pub spans : (i : ℕ) → i < road.count → (interval_of intervals road i).opens ≤ (interval_of intervals road i).closes
  pub within : (i : ℕ) → i < road.count → (interval_of intervals road i).closes < road.period
  pub apart : (i : ℕ) → i + 1 < road.count → (interval_of intervals road i).closes < (interval_of intervals road (i + 1)).opens

-- The same as tests. Each interval opens at `from` or later and closes within the period, and the next opens after that
abbrev pub ascending : ℕ → ℕ → List Interval → Bool
ascending period from [] = true
ascending period from (i ∷ rest) =
    nat_le from i.opens && (nat_le i.opens i.closes && (nat_lt i.closes period && ascending period (i.closes + 1) rest))

-- an interval closes within the period, no earlier than it opens
abbrev pub lies_within : ℕ → Interval → Bool
lies_within period i = nat_le i.opens i.closes && nat_lt i.closes period

-- a road's intervals are a run inside the interval table
abbrev pub run_of : List Interval → TimedRoad → List Interval
run_of intervals road = take road.count (drop road.first intervals)

-- a period and a crossing time of 1 to 5,000 minutes
abbrev pub timed : TimedRoad → Bool
timed road = nat_le 1 road.period && (nat_le road.period 5000 && (nat_le 1 road.time && nat_le road.time 5000))

-- a road: its ends, its figures, its intervals inside the table, how many they are, and their order
abbrev pub road_right : ℕ → List Interval → TimedRoad → Bool
road_right n intervals road =
    nat_lt road.tail n && (nat_lt road.head n && (timed road && (nat_le (road.first + road.count) (length intervals)
    && (nat_le 1 road.count && ascending road.period 0 (run_of intervals road)))))

-- the kind of timetabled roads
abbrev pub timed_kind : Kind TimedRoad Interval
timed_kind = record {
  no_road = no_road;
  tail = λ road. road.tail;
  head = λ road. road.head;
  right = road_right;
  least = λ intervals road. road.time;
  cross = λ intervals road x. entry road.period (run_of intervals road) x + road.time;
}

-- why tables are refused, if they are
abbrev pub tables_fault : ℕ → List TimedRoad → List Interval → Option Refusal
tables_fault = fault timed_kind

-- what tables mean
abbrev pub timetabled : ℕ → List TimedRoad → List Interval → Net
timetabled = meant timed_kind
