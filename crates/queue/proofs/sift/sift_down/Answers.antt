use Rattle.std.proofs.Common.{true, false, length, arith}
use Rattle.std.specs.Ordering.{flip_args}
use Rattle.std.proofs.lemmas.Cmp.{back_total}
use Rattle.std.proofs.lemmas.List.Sorted.{IsPermutation-refl, IsPermutation-trans}
use Rattle.std.proofs.HeapSift as sifts
use Rattle.queue.proofs.Comparing.{compares}
use Rattle.queue.proofs.sift.sift_down.Goals as goal

pub loop-at-init : goal.loop-at-init
loop-at-init g c =
    let xs = c.args.heap.now in
    record { len = omega arith; bag = IsPermutation-refl xs; sinking = sifts.sink_begins (flip_args g.T.Entry.order) (back_total g.met.T.Entry.total) xs 0 (length xs) }

pub loop-at-preserved : goal.loop-at-preserved
loop-at-preserved g c =
    let l = c.loop-at in
    let xs = c.args.heap.now in
    let child = c.first_child-child in
    let within = child.ensures.child in
    let over = compares g.T.Entry.order l.heap child.result l.at c.index-heap-child.result c.index-heap-at.result true (omega arith) (omega arith) c.index-heap-child.is c.index-heap-at.is (cc) in
    record {
      len = omega arith;
      bag = IsPermutation-trans xs l.heap c.swap.new.self l.invariant.bag c.swap.ensures.permutation;
      sinking = sifts.sink_steps (flip_args g.T.Entry.order) (back_total g.met.T.Entry.total) xs l.heap c.swap.new.self 0 (length xs) l.at child.result (omega arith) within.0 within.1 (omega arith) (omega arith) c.swap.ensures.after (rw l.invariant.len at child.ensures.first) over l.invariant.sinking;
    }

pub returns-then-not-comes_before-clause-ordered : goal.returns-then-not-comes_before-clause-ordered
returns-then-not-comes_before-clause-ordered g c =
    let l = c.loop-at in
    let xs = c.args.heap.now in
    let child = c.first_child-child in
    let rests = compares g.T.Entry.order l.heap child.result l.at c.index-heap-child.result c.index-heap-at.result false (omega arith) (omega arith) c.index-heap-child.is c.index-heap-at.is (cc) in
    sifts.sink_rests (flip_args g.T.Entry.order) (back_total g.met.T.Entry.total) xs l.heap 0 (length xs) l.at child.result (rw l.invariant.len at child.ensures.first) rests l.invariant.sinking

pub returns-clause-ordered : goal.returns-clause-ordered
returns-clause-ordered g c =
    let l = c.loop-at in
    let xs = c.args.heap.now in
    sifts.sink_ends (flip_args g.T.Entry.order) (back_total g.met.T.Entry.total) xs l.heap 0 (length xs) l.at (omega arith) l.invariant.sinking
