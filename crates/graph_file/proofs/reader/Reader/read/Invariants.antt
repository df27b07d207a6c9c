use Rattle.std.proofs.Common.{◌≡◌, ◌+◌, length}
use Rattle.graph_file.proofs.reader.Reader.read.Given as goal
use Rattle.graph_file.specs.Frames.{SameReader}
use Rattle.graph_file.specs.Gathering.{Reading}
use Rattle.numeral.specs.Texts.{lines}

abbrev pub invariant-loop-index : goal.invariant-loop-index
invariant-loop-index l =
    let rest = l.index-iterator.iter.0.now in
    let read = l.index-iterator.count in
    record {
      same : SameReader l.initial.self l.self;
      last : l.last ≡ read;
      counts : read + length (lines rest) ≡ length (lines l.text);
      reading : Reading l.self.limits l.text (read + 1) rest l.self.progress l.self.roads.now l.self.points.now;
    }
