-- The laws of the rule, for other crates to cite.
use Rattle.corridor.specs.Laws as law
use Rattle.corridor.proofs.Once as once
use Rattle.corridor.proofs.Made as made
use Rattle.corridor.proofs.Like as like
use Rattle.corridor.proofs.Spans as spans
use Rattle.corridor.proofs.Held as held

pub laws : law.Laws
laws =
    record {
      next_once = once.next_once;
      label_made = made.label_made;
      label_once = once.label_once;
      label_like = like.label_like;
      label_spans = spans.label_spans;
      label_stands = spans.label_stands;
      label_exact = held.label_exact;
      label_held = held.label_held;
      label_rises = held.label_rises;
      label_longer = once.label_longer;
    }
