use Rattle.std.proofs.Common.{◌≡◌, ℕ, ◌-◌, ◌/◌, List, length, get_or, map, take, drop, ap, ◌∙◌, arith}
use Rattle.std.proofs.lemmas.List.{take_rest}
use Rattle.std.specs.Simd.{first_chunks}
use Rattle.rows.specs.Rows.{point_of, points}
use Rattle.rows.proofs.Pairs.{pairs_are}
use Rattle.rows.proofs.pairs_of.Goals as goal

pub returns-clause-pairs_are_points : goal.returns-clause-pairs_are_points
unfolding points
returns-clause-pairs_are_points c =
    let row = c.args.row.now in
    let count = get_or row 0 0 in
    let rest = take (length row - 1) (drop 1 row) in
    let front : c.as_chunks.result.0.now ≡ first_chunks 2 (length rest / 2) rest = c.as_chunks.ensures.front in
    ap (λ (ps : List (List ℕ)). map point_of (take count ps)) (front ∙ ap (first_chunks 2 (length rest / 2)) (take_rest row 1))
    ∙ pairs_are count (length rest / 2) (drop 1 row) (omega (arith, c.requires.whole))
