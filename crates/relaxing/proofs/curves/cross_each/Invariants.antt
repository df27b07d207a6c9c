use Rattle.std.proofs.Common.{◌≡◌, ℕ, ◌+◌, ◌<◌, ◌≤◌, get_or}
use Rattle.relaxing.proofs.curves.cross_each.Given as goal

abbrev pub invariant-loop-t : goal.invariant-loop-t
invariant-loop-t g l =
    ((k : ℕ) → k < l.t → get_or l.lo k 0 ≡ (g.N.Network.means l.road.net.now).cross l.road.road (get_or l.initial.lo k 0))
    × ((k : ℕ) → l.t ≤ k → get_or l.lo k 0 ≡ get_or l.initial.lo k 0)
    × ((k : ℕ) → k < l.t → get_or l.up k 0 ≡ (g.N.Network.means l.road.net.now).cross l.road.road (get_or l.initial.lo k 0) + l.late)
