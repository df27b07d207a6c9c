-- Kinds of roads that are given by tables: what tables of a kind mean, and that it is a lawful network.
use Rattle.std.specs.Prelude.{◌≡◌, ℕ, ◌+◌, ◌<◌, ◌≤◌, Bool, true, List, length, None, Option, Decides, slice_index_or}
use Rattle.refusal.specs.declared.Refusal.{Refusal}
use Rattle.network.specs.Net.{Net, Lawful}
use Rattle.network.specs.Judged.{lowest, table_fault, Sized, sizes_right, each_right, none_wrong}

-- What a kind says of its roads: what stands where no road does, the ends of a road, its rule as a test, its least and
-- its crossings, these by the table of entries in which the road has a run.
pub record Kind (R E : Type 0) : Type 0 where
  pub no_road : R
  pub tail : R → ℕ
  pub head : R → ℕ
  pub right : ℕ → List E → R → Bool
  pub least : List E → R → ℕ
  pub cross : List E → R → ℕ → ℕ

-- what a lawful network of n nodes owes of one road
pub record LawfulRoad {R E : Type 0} (kind : Kind R E) (n : ℕ) (entries : List E) (road : R) : Type 0 where
  pub tail_below : kind.tail road < n
  pub head_below : kind.head road < n
  pub takes : 1 ≤ kind.least entries road
  pub early : (x : ℕ) → x + kind.least entries road ≤ kind.cross entries road x
  pub late : (x : ℕ) → kind.cross entries road x ≤ x + 10000
  pub order : (x y : ℕ) → x ≤ y → kind.cross entries road x ≤ kind.cross entries road y

-- of each road that keeps its rule it is owed
abbrev pub LawfulKind : {R E : Type 0} → Kind R E → Type 0
LawfulKind {R} {E} kind = (n : ℕ) (entries : List E) (road : R) → kind.right n entries road ≡ true → LawfulRoad kind n entries road

-- a road keeps the rule of its kind, among some number of nodes
abbrev pub Kept : {R E : Type 0} → Kind R E → List E → R → Type 0
Kept kind entries road = (n : ℕ) × (kind.right n entries road ≡ true)

-- why tables are refused, if they are
abbrev pub fault : {R E : Type 0} → Kind R E → ℕ → List R → List E → Option Refusal
fault kind n roads entries = table_fault n (length roads) (lowest (kind.right n entries) roads)

-- what tables mean
abbrev pub meant : {R E : Type 0} → Kind R E → ℕ → List R → List E → Net
meant kind n roads entries = record {
  nodes = n;
  roads = length roads;
  tail = λ r. kind.tail (slice_index_or roads r kind.no_road);
  head = λ r. kind.head (slice_index_or roads r kind.no_road);
  least = λ r. kind.least entries (slice_index_or roads r kind.no_road);
  cross = λ r x. kind.cross entries (slice_index_or roads r kind.no_road) x;
}

module _ {R E : Type 0} (kind : Kind R E) (n : ℕ) (roads : List R) (entries : List E) where
  pub road_right_at : fault kind n roads entries ≡ None → (r : ℕ) → r < length roads → kind.right n entries (slice_index_or roads r kind.no_road) ≡ true
  road_right_at accepted r h = each_right n (kind.right n entries) kind.no_road roads accepted r h

  pub tables_lawful : LawfulKind kind → fault kind n roads entries ≡ None → Lawful (meant kind n roads entries)
  tables_lawful lawful accepted =
      let s = sizes_right n (kind.right n entries) kind.no_road roads accepted in
      let road = λ (r : ℕ) (h : r < length roads). lawful n entries (slice_index_or roads r kind.no_road) (road_right_at accepted r h) in
      record {
        some = s.some;
        few = s.few;
        paved = s.paved;
        tails = λ r h. (road r h).tail_below;
        heads = λ r h. (road r h).head_below;
        takes = λ r h. (road r h).takes;
        early = λ r x h. (road r h).early x;
        late = λ r x h. (road r h).late x;
        order = λ r x y h k. (road r h).order x y k;
      }

-- tables of a right size whose roads keep their rule
pub record RightRoads {R E : Type 0} (kind : Kind R E) (Rule : ℕ → List E → R → Type 0) (n : ℕ) (roads : List R) (entries : List E) : Type 0 where
  pub size : Sized n (length roads)
  pub by_rule : (r : ℕ) → r < length roads → Rule n entries (slice_index_or roads r kind.no_road)

-- where the test of a road is its rule, exactly these tables are accepted
module _ {R E : Type 0} (kind : Kind R E) (Rule : ℕ → List E → R → Type 0) (tested : (n : ℕ) (entries : List E) (road : R) → Decides (kind.right n entries road) (Rule n entries road)) (n : ℕ) (roads : List R) (entries : List E) where
  pub right_accepted : RightRoads kind Rule n roads entries → fault kind n roads entries ≡ None
  right_accepted t = none_wrong n (kind.right n entries) kind.no_road roads t.size (λ r h. (tested n entries (slice_index_or roads r kind.no_road)).1 (t.by_rule r h))

  pub accepted_right : fault kind n roads entries ≡ None → RightRoads kind Rule n roads entries
  accepted_right e = record {
    size = sizes_right n (kind.right n entries) kind.no_road roads e;
    by_rule = λ r h. (tested n entries (slice_index_or roads r kind.no_road)).0 (road_right_at kind n roads entries e r h);
  }
