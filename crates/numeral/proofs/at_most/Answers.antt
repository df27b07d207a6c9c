use Rattle.numeral.proofs.Order.{compared}
use Rattle.numeral.proofs.at_most.Goals as goal
use Rattle.std.proofs.Common.{◌∙◌}

pub returns : goal.returns
returns c = record { compares_numbers = c.le.ensures ∙ compared c.args.one.now c.args.other.now c.requires.one_is_number c.requires.other_is_number }
