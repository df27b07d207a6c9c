use Rattle.std.proofs.Common.{sym, ◌∙◌, arith}
use Rattle.std.proofs.lemmas.List.{length-take-le}
use Rattle.std.proofs.lemmas.List.Sorted.{length_permutation}
use Rattle.queue.proofs.Heaps.{room_of, push_entry}
use Rattle.queue.proofs.heap.Queue.push.Goals as goal

pub returns : goal.returns
returns g c =
    let q = c.self.inside in
    let up = c.sift_up in
    let more = push_entry g.met.T.Entry.total q.slots.now up.new.heap q.len c.args.entry (omega arith) up.auto.heap up.ensures.ordered up.ensures.bag in
    rw (← c.self.view_is) (record {
      sound = λ was. record { within = omega arith; ordered = (more.heap (c.self.invariant, was.ordered)).1 };
      room = room_of _ _ ∙ more.long ∙ sym (room_of _ _);
      gains_or_refuses = record {
        fits = omega (arith, length-take-le q.len q.slots.now c.self.invariant, room_of q.len q.slots.now);
        len = omega (arith, length_permutation _ _ more.bag);
        bag = more.bag;
      };
    })
