use Rattle.std.proofs.Common.{◌≡◌, ℕ, ◌+◌, ◌*◌, ◌∷◌, length, take, refl, ap, ◌∙◌, subst, arith}
use Rattle.std.proofs.lemmas.List.{length-set, take_more_set, take_all}
use Rattle.rows.specs.Rows.{flat}
use Rattle.rows.proofs.Rows.{write_more, write_all}
use Rattle.rows.proofs.write_row.Goals as goal

pub loop-index-init : goal.loop-index-init
loop-index-init c = take_more_set c.args.row.now 0 (length c.args.label.now) (omega arith)

pub loop-index-preserved : goal.loop-index-preserved
loop-index-preserved c =
    let long = simp length-set at c.loop-index.auto.row in
    write_more c.args.label.now c.loop-index.row (length c.args.label.now) c.loop-index.index (omega arith) (omega arith) c.loop-index.invariant

pub returns : goal.returns
returns c =
    let label = c.args.label.now in
    let row = c.loop-index.row in
    let long = simp length-set at c.loop-index.auto.row in
    let index : c.loop-index.index ≡ length label = omega arith in
    let written = subst (λ (i : ℕ). take (2 * i + 1) row ≡ length label ∷ flat (take i label)) index c.loop-index.invariant in
    record {
      label_laid_out = λ P wide. write_all label row _ _ P (long ∙ wide) refl (written ∙ ap (λ ps. length label ∷ flat ps) (take_all (length label) label (omega arith))) (c.fill.ensures.after (λ y e. e));
    }
