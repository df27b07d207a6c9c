use Rattle.std.proofs.Common.{◌≡◌, ◌+◌, sym, ◌∙◌, arith}
use Rattle.std.proofs.lemmas.List.Sorted.{length_permutation}
use Rattle.queue.proofs.Heaps.{room_of, pop_entry}
use Rattle.queue.proofs.heap.Queue.pop.Goals as goal

pub returns : goal.returns
returns g c =
    let q = c.self.inside in
    let down = c.sift_down in
    let last = c.in_ok-last.last in
    let one : q.len ≡ last + 1 = omega (arith, c.in_ok-last.ensures) in
    let left = pop_entry g.met.T.Entry.total q.slots.now down.new.heap last c.index-self-0.result c.index-self-last.result (rw one at c.self.invariant) c.index-self-0.is down.auto.heap down.ensures.ordered down.ensures.bag in
    let len = length_permutation _ _ left.bag in
    rw (← c.self.view_is, ← c.index-self-0.is, one) (record {
      sound = λ was. record { within = omega arith; ordered = (left.heap (rw one at c.self.invariant, was.ordered)).1 };
      room = room_of _ _ ∙ left.long ∙ sym (room_of _ _);
      taken_out = record { len = omega (arith, len); bag = left.bag };
      loses_or_lacks = λ was. record { len = omega (arith, len); least = left.least (rw one at c.self.invariant, was.ordered); bag = left.bag };
    })
