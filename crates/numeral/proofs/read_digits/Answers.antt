use Rattle.numeral.proofs.Reading.{read_turn, digit_is, capped_turn}
use Rattle.numeral.proofs.read_digits.Goals as goal
use Rattle.std.proofs.lemmas.Bool.Decides.{nat_tests}
use Rattle.std.proofs.Common.{arith, get_or}

pub loop-b-preserved : goal.loop-b-preserved
loop-b-preserved c =
    let t = read_turn c.args.most c.loop-b.n c.args.text.now c.loop-b.b-index c.loop-b-test.true in
    let v = c.in_ok-digit.ensures.value in
    let d = digit_is (get_or c.args.text.now c.loop-b.b-index 0) in
    let m = capped_turn c.args.most c.loop-b.n c.in_ok-digit.digit in
    (omega arith, grind (arith, nat_tests))
