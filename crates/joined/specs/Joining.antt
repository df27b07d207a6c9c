-- Two networks as one: the roads of the first, then those of the second.
use Rattle.std.specs.Prelude.{ℕ, ◌+◌, ◌-◌, cond, is_some, Some, None, Option, ◌==◌, nat_le, nat_lt}
use Rattle.refusal.specs.declared.Refusal.{Refusal}
use Rattle.refusal.specs.declared.Refusal.TheVariants.{Table, Quota}
use Rattle.network.specs.Net.{Net}
use Rattle.joined.specs.declared.Place.{Place}
use Rattle.joined.specs.declared.Place.TheVariants.{First, Second}

-- why two networks may not be joined, if they may not: different nodes, else too many roads
abbrev pub join_fault : Net → Net → Option Refusal
join_fault a b =
    cond (a.nodes == b.nodes)
    (cond (nat_le (a.roads + b.roads) 4096) None (Some (Quota record { file = 0; line = 0 }))) (Some (Table None))

-- the roads that the second adds: all, and none where the two may not be joined
abbrev pub added : Net → Net → ℕ
added a b = cond (is_some (join_fault a b)) 0 b.roads

-- the part that has the road r, and r's number there; none where there is no such road
abbrev pub place : Net → Net → ℕ → Option Place
place a b r = cond (nat_lt r a.roads) (Some (First r)) (cond (nat_lt (r - a.roads) (added a b)) (Some (Second (r - a.roads))) None)

abbrev pub part : ℕ → (ℕ → ℕ) → (ℕ → ℕ) → ℕ → ℕ
part m f g r = cond (nat_lt r m) (f r) (g (r - m))

abbrev pub join : Net → Net → Net
join a b = record {
  nodes = a.nodes;
  roads = a.roads + added a b;
  tail = part a.roads a.tail b.tail;
  head = part a.roads a.head b.head;
  least = part a.roads a.least b.least;
  cross = λ r x. part a.roads (λ k. a.cross k x) (λ k. b.cross k x) r;
}
