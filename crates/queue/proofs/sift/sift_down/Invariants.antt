use Rattle.std.proofs.Common.{◌-◌, ◌≡◌, length}
use Rattle.std.specs.List.Sorted.{IsPermutation}
use Rattle.std.specs.Ordering.{flip_args}
use Rattle.std.proofs.lemmas.Cmp.{back_total}
use Rattle.std.proofs.HeapSift as sifts
use Rattle.queue.proofs.sift.sift_down.Given as goal

abbrev pub invariant-loop-at : goal.invariant-loop-at
invariant-loop-at g l = record {
  len : length l.heap ≡ length l.fn.heap;
  bag : IsPermutation l.fn.heap l.heap;
  sinking : sifts.Sinking (flip_args g.T.Entry.order) (back_total g.met.T.Entry.total) l.fn.heap 0 (length l.fn.heap) l.heap l.at;
}

abbrev pub decreases-loop-at : goal.decreases-loop-at
decreases-loop-at g l = length l.heap - l.at
