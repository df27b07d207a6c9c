use Rattle.std.proofs.Common.{true, false, ◌+◌, ◌*◌, length, add-zero, arith, refl}
use Rattle.std.specs.Ordering.{flip_args}
use Rattle.std.proofs.lemmas.Cmp.{back_total}
use Rattle.std.proofs.HeapSift as sifts
use Rattle.queue.proofs.Comparing.{compares}
use Rattle.queue.proofs.sift.first_child.Goals as goal

pub returns-then-right-heap-clause-first : goal.returns-then-right-heap-clause-first
returns-then-right-heap-clause-first g c =
    let at = c.args.at in
    sifts.only_child (flip_args g.T.Entry.order) (back_total g.met.T.Entry.total) c.args.heap.now at (at * 2 + 1) (length c.args.heap.now) refl (omega arith)

pub returns-then-comes_before-clause-first : goal.returns-then-comes_before-clause-first
returns-then-comes_before-clause-first g c =
    let xs = c.args.heap.now in
    let left = c.args.at * 2 + 1 in
    let over = compares g.T.Entry.order xs left (left + 1) c.index-heap-left.result c.index-heap-right.result true (omega arith) (omega arith) c.index-heap-left.is c.index-heap-right.is (cc) in
    simp add-zero at (sifts.either_child (flip_args g.T.Entry.order) (back_total g.met.T.Entry.total) xs c.args.at left (length xs) _ refl over).1

pub returns-else-comes_before-clause-first : goal.returns-else-comes_before-clause-first
returns-else-comes_before-clause-first g c =
    let xs = c.args.heap.now in
    let left = c.args.at * 2 + 1 in
    let over = compares g.T.Entry.order xs left (left + 1) c.index-heap-left.result c.index-heap-right.result false (omega arith) (omega arith) c.index-heap-left.is c.index-heap-right.is (cc) in
    (sifts.either_child (flip_args g.T.Entry.order) (back_total g.met.T.Entry.total) xs c.args.at left (length xs) _ refl over).1
