use Rattle.std.proofs.Common.{◌≡◌}
use Rattle.corridor.specs.Scans.{Scanned}
use Rattle.corridor.proofs.next.next_point.Given as goal

abbrev pub invariant-loop-s : goal.invariant-loop-s
invariant-loop-s l = (l.scan.bounds ≡ l.initial.scan.bounds) × (l.scan.from ≡ l.initial.scan.from) × Scanned l.scan l.s
