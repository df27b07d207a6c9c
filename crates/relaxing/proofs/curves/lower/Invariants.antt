use Rattle.std.proofs.Common.{◌≡◌, ℕ, ◌<◌, ◌≤◌, min, get_or}
use Rattle.relaxing.proofs.curves.lower.Given as goal

abbrev pub invariant-loop-t : goal.invariant-loop-t
invariant-loop-t l =
    ((k : ℕ) → k < l.t → get_or l.bound k 0 ≡ min (get_or l.label k 0) (get_or l.initial.bound k 0))
    × ((k : ℕ) → l.t ≤ k → get_or l.bound k 0 ≡ get_or l.initial.bound k 0)
