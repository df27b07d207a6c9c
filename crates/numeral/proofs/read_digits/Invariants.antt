use Rattle.std.proofs.Common.{◌≡◌, ◌≤◌, drop}
use Rattle.numeral.proofs.read_digits.Given as goal
use Rattle.numeral.specs.Decimals.{read_on}

abbrev pub invariant-loop-b : goal.invariant-loop-b
invariant-loop-b l = (l.n ≤ l.most) × (read_on l.most l.n (drop l.b-index l.text) ≡ read_on l.most 0 l.text)
