use Rattle.std.proofs.lemmas.Grind.{common_steps}
use Rattle.std.proofs.Common.{List, [], ◌∷◌, ◌++◌, subst, arith}
use Rattle.std.proofs.lemmas.List.{length-set, take_all}
use Rattle.curve.specs.declared.points.Point.{Point}
use Rattle.corridor.specs.Curves.{curve_of, last}
use Rattle.corridor.specs.Laws.{Begins}
use Rattle.corridor.proofs.Labels.{written_more, written_all, written_full, written_short}
use Rattle.corridor.proofs.bounds.Bounds.label.Goals as goal

pub returns-then-point-self : goal.returns-then-point-self
returns-then-point-self c =
    let out = c.loop-index.out in
    let i = c.loop-index.index in
    record {
      written_or_each_longer = record {
        room = simp length-set (omega arith);
        label = written_all _ _ c.args.self.now.curves out i _ (omega arith) c.loop-index.invariant.0 c.if-point-self.true;
        rest = grind (arith, common_steps);
      };
    }

pub returns-then-index-places : goal.returns-then-index-places
returns-then-index-places c =
    record {
      written_or_each_longer = λ ps label.
          omega (arith, written_full _ _ c.args.self.now.curves c.loop-index.out c.loop-index.index _ (omega arith) c.loop-index.invariant.0 c.loop-index.invariant.1 c.if-point-self.false ps label);
    }

pub loop-index-preserved : goal.loop-index-preserved
loop-index-preserved c =
    let out = c.loop-index.out in
    let i = c.loop-index.index in
    let more = written_more _ _ c.args.self.now.curves out i _ _ (omega arith) c.loop-index.invariant.0 c.next_point-point.ensures.next_of_all in
    (more.0, more.1, grind (arith, common_steps))

pub returns : goal.returns
returns c =
    let out = c.loop-index.out in
    let all = take_all c.loop-index.index out (omega arith) in
    let far = subst (λ (ps : List Point). Begins (curve_of c.args.self.now.lo.now) (curve_of c.args.self.now.up.now) (last c.args.self.now.lo.now) (ps ++ c.loop-index.point ∷ []) c.loop-index.point) all c.loop-index.invariant.0 in
    record { written_or_each_longer = λ ps label. omega (arith, written_short _ _ c.args.self.now.curves out _ far c.loop-index.invariant.1 ps label) }
