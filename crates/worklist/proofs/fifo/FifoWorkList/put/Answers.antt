use Rattle.std.proofs.Common.{not, ap, ◌∙◌, length-set}
use Rattle.worklist.proofs.Waiting.{put_size, put_once, put_line}
use Rattle.worklist.proofs.fifo.FifoWorkList.put.Goals as goal

pub invariant_of-self-then-branch : goal.invariant_of-self-then-branch
invariant_of-self-then-branch c =
    let l = c.args.self.now in
    let added = c.in_ok-insert.ensures.adds_or_refuses in
    let off = added.1 ∙ ap not c.if-branch.true in
    record { sizes = (l.sizes.0, simp length-set l.sizes.1); tally = put_size l c.args.node c.insert.new.self off added.0 added.2; once = put_once l c.args.node c.insert.new.self off added.0 added.2 }

pub returns-then-branch : goal.returns-then-branch
returns-then-branch c =
    let added = c.in_ok-insert.ensures.adds_or_refuses in
    record { puts_or_refuses = (added.0, record { bound = added.2.bound; line = put_line c.args.self.now c.args.node c.insert.new.self (added.1 ∙ ap not c.if-branch.true) added.0 added.2 }) }
