use Rattle.std.proofs.Common.{◌≡◌, length, take, ◌∙◌, arith}
use Rattle.std.proofs.lemmas.List.{length-take-le}
use Rattle.runs.specs.Figured.{right_tells}
use Rattle.relaxing.proofs.step.relabel.Goals as goal

pub returns : goal.returns
returns c =
    let f = c.args.heading.figures in
    let out = c.label.new.out in
    let written = c.in_ok-count.ensures.written_or_each_longer in
    let right = right_tells f c.args.heading.lawful in
    let room : length out ≡ c.places.result = c.label.auto.out ∙ length-take-le c.places.result _ (omega (arith, c.places.ensures.places_held, right.most, right.day)) in
    record {
      relabelled_or_full = record {
        new = take c.in_ok-count.count out;
        label = written.label;
        fits = omega (arith, length-take-le c.in_ok-count.count out written.room, written.room, room, c.places.ensures.places_held);
        rewritten = c.write_label.ensures.own_row_alone;
      };
    }
