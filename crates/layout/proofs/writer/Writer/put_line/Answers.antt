use Rattle.std.proofs.Common.{◌++◌, arith}
use Rattle.std.proofs.lemmas.List.{length-append}
use Rattle.numeral.proofs.Written.{written_push}
use Rattle.layout.specs.Layout.{field}
use Rattle.layout.proofs.Lengths.{line_length}
use Rattle.layout.proofs.Writing.{wrote_more}
use Rattle.layout.proofs.writer.Writer.put_line.Goals as goal

pub returns : goal.returns
returns c =
    let self = c.args.self.now in
    let long = line_length c.args.node c.args.point in
    let f = field c.args.node 44 in
    let g = field c.args.point.departure 44 in
    let h = field c.args.point.arrival 13 in
    let two = wrote_more self c.put_field.new.self f g (omega (arith, long, c.requires)) c.put_field.ensures.wrote_field _ c.put_field-2.ensures.wrote_field in
    let three = wrote_more self c.put_field-2.new.self (f ++ g) h (omega (arith, long, length-append f g, c.requires)) two _ c.put_field-3.ensures.wrote_field in
    record {
      wrote_line = record {
        ends_after = omega (arith, long, three.ends_after, length-append f g, length-append (f ++ g) h);
        writes_alone = written_push self.at ((f ++ g) ++ h) 10 self.buffer.now _ _ three.writes_alone three.ends_after (omega (arith, long, length-append f g, length-append (f ++ g) h, c.requires));
        same_buffer = three.same_buffer;
      };
    }
