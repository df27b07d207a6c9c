-- One more point written into a row, and the places left.
use Rattle.std.proofs.Common.{◌≡◌, ℕ, ◌+◌, ◌-◌, ◌*◌, ◌<◌, List, [], ◌∷◌, ◌++◌, length, get_or, take, drop, set, replicate, sym, refl, ap, ◌∙◌, arith}
use Rattle.std.proofs.lemmas.List.{append_assoc, append-nil, drop_all, length-drop, length-set, take_rest, take_more, take_more_set}
use borrow.Rule.Slice.PartMut.{put_mid}
use Rattle.curve.specs.Curve.{no_point}
use Rattle.curve.specs.declared.points.Point.{Point}
use Rattle.rows.specs.Rows.{width, flat, laid_out}

flat_push : (ps : List Point) (p : Point) → flat (ps ++ p ∷ []) ≡ flat ps ++ p.departure ∷ p.arrival ∷ []
flat_push [] p = refl
flat_push (q ∷ ps) p = ap (λ (xs : List ℕ). q.departure ∷ q.arrival ∷ xs) (flat_push ps p)

-- one more point stands in the row
pub write_more : (ps : List Point) (row : List ℕ) (n i : ℕ) → i < length ps → 2 * i + 2 < length row → take (2 * i + 1) row ≡ n ∷ flat (take i ps)
    → take (2 * (i + 1) + 1) (set (set row (2 * i + 1) (get_or ps i no_point).departure) (2 * i + 2) (get_or ps i no_point).arrival) ≡ n ∷ flat (take (i + 1) ps)
write_more ps row n i more room h =
    let p = get_or ps i no_point in
    let first = set row (2 * i + 1) p.departure in
    let both = set first (2 * i + 2) p.arrival in
    let e : 2 * (i + 1) + 1 ≡ 2 * i + 2 + 1 = omega arith in
    let f : 2 * i + 2 ≡ 2 * i + 1 + 1 = omega arith in
    let one : take (2 * i + 2) first ≡ take (2 * i + 1) row ++ p.departure ∷ [] = ap (λ (k : ℕ). take k first) f ∙ take_more_set row (2 * i + 1) p.departure (omega arith) in
    ap (λ (k : ℕ). take k both) e
    ∙ take_more_set first (2 * i + 2) p.arrival (simp length-set room)
    ∙ ap (λ (xs : List ℕ). xs ++ p.arrival ∷ []) (one ∙ ap (λ (xs : List ℕ). xs ++ p.departure ∷ []) h)
    ∙ append_assoc (n ∷ flat (take i ps)) (p.departure ∷ []) (p.arrival ∷ [])
    ∙ ap (λ (xs : List ℕ). n ∷ xs) (sym (ap flat (take_more ps i no_point more) ∙ flat_push (take i ps) p))

-- and 0 in the places left
pub write_all : (ps : List Point) (row zeros : List ℕ) (at P : ℕ) → length row ≡ width P → at ≡ 2 * length ps + 1 → take at row ≡ length ps ∷ flat ps
    → zeros ≡ replicate (length (take (length row - at) (drop at row))) 0 → put_mid at (length row - at) row zeros ≡ laid_out P ps
unfolding laid_out
write_all ps row zeros at P wide end h z =
    let size : length (drop at row) ≡ length row - at = length-drop at row in
    let none : drop (length row - at) (drop at row) ≡ [] = drop_all (length row - at) (drop at row) (omega arith) in
    let left : length (take (length row - at) (drop at row)) ≡ 2 * P - 2 * length ps = ap length (take_rest row at) ∙ omega arith in
    let rest : zeros ++ drop (length row - at) (drop at row) ≡ replicate (2 * P - 2 * length ps) 0 =
    ap (λ (xs : List ℕ). zeros ++ xs) none ∙ append-nil zeros ∙ z ∙ ap (λ (n : ℕ). replicate n 0) left in
    ap (λ (xs : List ℕ). take at row ++ xs) {y = replicate (2 * P - 2 * length ps) 0} rest
    ∙ ap (λ (xs : List ℕ). xs ++ replicate (2 * P - 2 * length ps) 0) h
