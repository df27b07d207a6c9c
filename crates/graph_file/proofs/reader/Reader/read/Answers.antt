use Rattle.std.proofs.Common.{◌+◌, ◌∙◌, length, ap, inl, rules, arith}
use Rattle.graph_file.proofs.Turn.{finished, refused_line, turned}
use Rattle.graph_file.proofs.reader.Reader.read.Goals as goal
use Rattle.graph_file.specs.Files.{end_of}
use Rattle.numeral.proofs.FirstLine.{lines_few}
use Rattle.std.proofs.lemmas.Grind.{common_steps}

pub loop-index-init-derived : goal.loop-index-init-derived
loop-index-init-derived c = rw (c.into_iter-index-iterator.ensures.into_iter_gives, c.enumerate-index-items.ensures.source, c.enumerate-index-items.ensures.count) ((tt, tt, inl (omega (arith, lines_few c.args.text.now))), tt)

pub returns-in_err-take_line-clause-reads_files : goal.returns-in_err-take_line-clause-reads_files
returns-in_err-take_line-clause-reads_files c =
    let self = c.loop-index.self in
    let wrong = c.in_err-take_line.ensures.takes in
    let steps = c.in-Some.ensures.steps in
    let e = refused_line self.limits self.progress wrong.0 self.roads.now self.points.now (c.loop-index.index-iterator.count + 1) c.args.text.now c.loop-index.index-iterator.iter.0.now c.in-Some.front.now c.next.new.self.iter.0.now self.within self.fit steps.0 c.loop-index.invariant.reading wrong.1 in
    let q = rw c.loop-index.invariant.same.limits at e in
    grind (arith, common_steps)

pub loop-index-preserved : goal.loop-index-preserved
loop-index-preserved c =
    let self = c.loop-index.self in
    let steps = c.in-Some.ensures.steps in
    let e = c.in_ok-take_line.ensures in
    let now = c.take_line.new.self in
    let r = turned self.limits self.progress now.progress self.roads.now now.roads.now self.points.now now.points.now (c.loop-index.index-iterator.count + 1) c.args.text.now c.loop-index.index-iterator.iter.0.now c.in-Some.front.now c.next.new.self.iter.0.now self.within self.fit steps.0 c.loop-index.invariant.reading e.takes in
    record {
      same = search rules;
      last = omega (arith, steps.2);
      counts = omega (arith, c.loop-index.invariant.counts, ap length steps.0, steps.2);
      reading = rw (e.same_reader.limits, steps.2) r;
    }

pub overflow_add-last-2 : goal.overflow_add-last-2
overflow_add-last-2 c = omega (arith, lines_few c.args.text.now, c.loop-index.invariant.counts, c.loop-index.invariant.last)

pub returns-clause-reads_files : goal.returns-clause-reads_files
returns-clause-reads_files c =
    let self = c.loop-index.self in
    let all = c.in-None.ensures.steps.0.0 in
    let read = c.loop-index.index-iterator.count in
    let f = finished self.limits self.progress (read + 1) self.roads.now self.points.now c.args.text.now c.loop-index.index-iterator.iter.0.now c.finish.result self.within c.loop-index.invariant.reading all (c.finish.ensures.finishes ∙ ap (λ k. end_of self.progress (k + 1)) c.loop-index.invariant.last) in
    rw c.loop-index.invariant.same.limits at f
