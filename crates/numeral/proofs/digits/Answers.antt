use Rattle.numeral.proofs.Written.{length_power}
use Rattle.numeral.proofs.digits.Goals as goal
use Rattle.std.proofs.Common.{arith}
use Rattle.std.proofs.lemmas.Fmt.{decimal_digit}
use Rattle.std.proofs.lemmas.Grind.{common_steps}

pub returns-clause-counts_digits : goal.returns-clause-counts_digits
returns-clause-counts_digits c = grind (arith, common_steps, length_power, decimal_digit)
