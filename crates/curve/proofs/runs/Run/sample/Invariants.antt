use Rattle.std.proofs.Common.{◌≡◌, ℕ, ◌-◌, ◌<◌, get_or}
use Rattle.curve.specs.Curve.{IsLastBy, reads}
use Rattle.curve.proofs.runs.Run.sample.Given as goal

abbrev pub invariant-loop-t : goal.invariant-loop-t
invariant-loop-t l = record {
  last : IsLastBy l.self.points.now l.i (l.t - 1);
  read : (k : ℕ) → k < l.t → get_or l.out k 0 ≡ reads l.self.points.now k;
}
