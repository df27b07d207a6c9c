use Rattle.std.proofs.Common.{◌∙◌}
use Rattle.queue.proofs.Heaps.{on_top, peeked}
use Rattle.queue.proofs.heap.Queue.peek.Goals as goal

pub returns : goal.returns
returns g c =
    let first = c.copied.ensures ∙ c.first.ensures.value in
    rw (← c.self.view_is) (record { held = on_top _ c.copied.result first; first_or_none = peeked g.met.T.Entry.total _ (λ sound. sound.ordered) c.copied.result first })
