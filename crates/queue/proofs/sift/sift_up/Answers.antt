use Rattle.std.proofs.Common.{true, false, ◌-◌, ◌/◌, length, arith}
use Rattle.std.specs.Ordering.{flip_args}
use Rattle.std.proofs.lemmas.Cmp.{back_total}
use Rattle.std.proofs.lemmas.List.Sorted.{IsPermutation-refl, IsPermutation-trans}
use Rattle.std.proofs.HeapSift as sifts
use Rattle.queue.proofs.Comparing.{compares}
use Rattle.queue.proofs.sift.sift_up.Goals as goal

pub loop-at-init : goal.loop-at-init
loop-at-init g c =
    let xs = c.args.heap.now in
    record { within = omega arith; len = omega arith; bag = IsPermutation-refl xs; rising = sifts.rise_begins (flip_args g.T.Entry.order) (back_total g.met.T.Entry.total) xs (length xs - 1) }

pub loop-at-preserved : goal.loop-at-preserved
loop-at-preserved g c =
    let l = c.loop-at in
    let up = (l.at - 1) / 2 in
    let under = compares g.T.Entry.order l.heap l.at up c.index-heap-at.result c.index-heap-at-in-loop-at.result true l.invariant.within (omega arith) c.index-heap-at.is c.index-heap-at-in-loop-at.is (cc) in
    record {
      within = omega arith;
      len = omega arith;
      bag = IsPermutation-trans c.args.heap.now l.heap c.swap.new.self l.invariant.bag c.swap.ensures.permutation;
      rising = sifts.rise_steps (flip_args g.T.Entry.order) (back_total g.met.T.Entry.total) c.args.heap.now l.heap c.swap.new.self (length c.args.heap.now - 1) l.at (omega arith) (omega arith) (omega arith) c.swap.ensures.after under l.invariant.rising;
    }

pub returns-else-comes_before-clause-ordered : goal.returns-else-comes_before-clause-ordered
returns-else-comes_before-clause-ordered g c =
    let l = c.loop-at in
    let up = (l.at - 1) / 2 in
    let rests = compares g.T.Entry.order l.heap l.at up c.index-heap-at.result c.index-heap-at-in-loop-at.result false l.invariant.within (omega arith) c.index-heap-at.is c.index-heap-at-in-loop-at.is (cc) in
    sifts.rise_rests (flip_args g.T.Entry.order) (back_total g.met.T.Entry.total) c.args.heap.now l.heap (length c.args.heap.now - 1) l.at rests l.invariant.rising

pub returns-after-loop-at-clause-ordered : goal.returns-after-loop-at-clause-ordered
returns-after-loop-at-clause-ordered g c =
    let l = c.loop-at in
    sifts.rise_tops (flip_args g.T.Entry.order) (back_total g.met.T.Entry.total) c.args.heap.now l.heap (length c.args.heap.now - 1) l.at (omega arith) l.invariant.rising
