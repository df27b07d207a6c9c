use Rattle.std.proofs.Common.{arith}
use Rattle.numeral.proofs.Cuts.{cut_here, cut_none}
use Rattle.numeral.proofs.cut_at.Goals as goal
use Rattle.std.proofs.lemmas.Grind.{common_steps}
use Rattle.std.proofs.lemmas.List.{take_rest}

pub returns-in_err-at : goal.returns-in_err-at
returns-in_err-at c = record { cuts_at_first = rw c.from_residual.ensures (cut_none c.args.mark c.args.text.now (λ k l e. grind (arith, common_steps))) }

pub returns : goal.returns
returns c = record { cuts_at_first = rw take_rest (cut_here c.args.mark c.args.text.now c.in_ok-at.at (grind (arith, common_steps)) (λ k l e. grind (arith, common_steps)) (grind (arith, common_steps))) }
