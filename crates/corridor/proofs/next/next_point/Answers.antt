use Rattle.std.proofs.Common.{◌∙◌, length, subst, ap, arith}
use Rattle.curve.specs.declared.points.Point.{Point}
use Rattle.corridor.specs.declared.bounds.Bounds.{Bounds}
use Rattle.corridor.specs.Corridor.{Next}
use Rattle.corridor.specs.Curves.{curve_of}
use Rattle.corridor.proofs.Scan.{next_last}
use Rattle.corridor.proofs.next.next_point.Goals as goal

pub returns-then-is_empty : goal.returns-then-is_empty
returns-then-is_empty c =
    let scan = c.see.new.self in
    let from = c.see.ensures.from_kept ∙ c.loop-s.invariant.1 in
    let later = ap (λ (p : Point). p.departure) from in
    let scanned = c.see.ensures.scanned_one_more in
    let all = length c.args.bounds.now.lo.now in
    let next = next_last _ _ _ _ _ scanned.seen (omega (arith, later)) c.if-is_empty.ensures.none_or_lowest _ (scanned.known (omega (arith, later))) all (omega arith) in
    record {
      next_of_all = subst (λ (p : Point). Next (curve_of c.args.bounds.now.lo.now) (curve_of c.args.bounds.now.up.now) all p scan.best) from
          (subst (λ (b : Bounds). Next (curve_of b.lo.now) (curve_of b.up.now) all scan.from scan.best) (c.see.ensures.bounds_kept ∙ c.loop-s.invariant.0) next);
    }
