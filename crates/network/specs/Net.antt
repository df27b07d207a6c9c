-- A road network by what it means, the replies to questions of it, and the laws that it keeps.
use Rattle.std.specs.Prelude.{◌≡◌, ℕ, ◌+◌, ◌<◌, ◌≤◌, cond, ◌&&◌, Some, None, Option, nat_le, nat_lt}

-- the last minute at which a road's crossing may be asked
abbrev pub last_minute : ℕ
last_minute = 20461440

-- Nodes are the numbers below nodes, roads those below roads; whoever enters the road r at minute x
-- arrives at cross r x, after no less than least r minutes.
pub record Net : Type 0 where
  pub nodes : ℕ
  pub roads : ℕ
  pub tail : ℕ → ℕ
  pub head : ℕ → ℕ
  pub least : ℕ → ℕ
  pub cross : ℕ → ℕ → ℕ

-- the reply to a question f of the road r
abbrev pub told : Net → (ℕ → ℕ) → ℕ → Option ℕ
told net f r = cond (nat_lt r net.roads) (Some (f r)) None

-- the reply to a question of the crossing of r, entered at x
abbrev pub crossing : Net → ℕ → ℕ → Option ℕ
crossing net r x = cond (nat_lt r net.roads && nat_le x last_minute) (Some (net.cross r x)) None

-- 1 to 1,024 nodes, at most 4,096 roads, ends that are nodes, crossings of 1 to 10,000 minutes, none
-- quicker than its road's least, and no overtaking
pub record Lawful (net : Net) : Type 0 where
  pub some : 1 ≤ net.nodes
  pub few : net.nodes ≤ 1024
  pub paved : net.roads ≤ 4096
  pub tails : (r : ℕ) → r < net.roads → net.tail r < net.nodes
  pub heads : (r : ℕ) → r < net.roads → net.head r < net.nodes
  pub takes : (r : ℕ) → r < net.roads → 1 ≤ net.least r
  pub early : (r x : ℕ) → r < net.roads → x + net.least r ≤ net.cross r x
  pub late : (r x : ℕ) → r < net.roads → net.cross r x ≤ x + 10000
  pub order : (r x y : ℕ) → r < net.roads → x ≤ y → net.cross r x ≤ net.cross r y

-- some crossing of the road r takes exactly its least
pub record Attained (net : Net) (r : ℕ) : Type 0 where
  pub minute : ℕ
  pub exact : net.cross r minute ≡ minute + net.least r
