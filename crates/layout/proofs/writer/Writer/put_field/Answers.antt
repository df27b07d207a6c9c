use Rattle.std.proofs.Common.{decimal, refl, arith}
use Rattle.numeral.proofs.Written.{written_push}
use Rattle.layout.proofs.Lengths.{field_length}
use Rattle.layout.proofs.writer.Writer.put_field.Goals as goal

pub returns : goal.returns
returns c =
    let l = field_length c.args.n c.args.mark in
    let at = c.args.self.now.at in
    record {
      wrote_field = record {
        ends_after = omega (arith, c.put_number-end.ensures.ends_after_number);
        writes_alone = written_push at (decimal c.args.n) c.args.mark _ _ _ c.put_number-end.ensures.writes_number_alone c.put_number-end.ensures.ends_after_number (omega (arith, c.requires));
        same_buffer = refl;
      };
    }
