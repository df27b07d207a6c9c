use Rattle.std.proofs.Common.{◌+◌, ◌/◌, ◌%◌, ◌<◌, length, decimal, ap, arith}
use Rattle.numeral.proofs.+put_number.Goals as goal
use Rattle.numeral.proofs.Written.{length_step, written_byte, written_push}
use Rattle.std.proofs.lemmas.Fmt.{decimal_step, decimal_digit}

pub bounds-buffer-at : goal.bounds-buffer-at
bounds-buffer-at t c = omega (arith, ap length (decimal_digit c.args.n (omega arith)))

pub returns-then-n-lt10 : goal.returns-then-n-lt10
returns-then-n-lt10 t c =
    let d = decimal_digit c.args.n (omega arith) in
    let l : c.args.at < length c.args.buffer.now = omega (arith, ap length d) in
    record { ends_after_number = omega (arith, ap length d); writes_number_alone = rw d (written_byte c.args.at (48 + c.args.n) c.args.buffer.now l) }

pub put_number-last-requires : goal.put_number-last-requires
put_number-last-requires t c = omega (arith, length_step c.args.n (omega arith) (omega arith))

pub bounds-buffer-last : goal.bounds-buffer-last
bounds-buffer-last t c = omega (arith, length_step c.args.n (omega arith) (omega arith))

pub returns : goal.returns
returns t c =
    let e = length_step c.args.n (omega arith) (omega arith) in
    let d = decimal_step c.args.n (omega arith) (omega arith) in
    record {
      ends_after_number = omega arith;
      writes_number_alone = rw d (written_push c.args.at (decimal (c.args.n / 10)) (48 + c.args.n % 10) _ _ _ c.put_number-last.ensures.writes_number_alone c.put_number-last.ensures.ends_after_number (omega arith));
    }
