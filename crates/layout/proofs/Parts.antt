-- One more line, and one more row.
use Rattle.std.proofs.Common.{◌≡◌, ℕ, zero, suc, ◌+◌, ◌-◌, ◌*◌, ◌<◌, ◌≤◌, mul-le-mul_right, List, [], ◌∷◌, ◌++◌, map, length, get_or, take, sym, ap, ◌∙◌, add-zero, arith}
use Rattle.curve.specs.Curve.{no_point}
use Rattle.curve.specs.declared.points.Point.{Point}
use Rattle.rows.specs.Rows.{point_of, points}
use Rattle.layout.specs.Layout.{body_text, line_text, row_text}
use Rattle.layout.specs.Sheets.{row_of, rows}
use Rattle.std.proofs.lemmas.List.FromFn.{length-map-range_with_len, map-range_with_len_more}
use Rattle.std.proofs.lemmas.List.Folds.{length-flat_map-take}
use Rattle.std.proofs.lemmas.List.{append_assoc, append-nil, flat_map_more, get_or-map, length-append, length-map, take_more}

-- the line of the pair at k comes after those before it, and fits where the whole row does
module _ (node : ℕ) (pairs : List (List ℕ)) (k : ℕ) (p : Point) (here : p ≡ point_of (get_or pairs k [])) (room : k < length pairs) where
  at : get_or (map point_of pairs) k no_point ≡ p
  at = get_or-map point_of pairs k [] no_point room ∙ sym here

  pub row_more : row_text node (take (k + 1) (map point_of pairs)) ≡ row_text node (take k (map point_of pairs)) ++ line_text node p
  row_more =
      ap (row_text node) (take_more (map point_of pairs) k no_point (omega (arith, length-map pairs point_of)) ∙ ap (λ (q : Point). take k (map point_of pairs) ++ q ∷ []) at)
      ∙ sym (flat_map_more (line_text node) [] (take k (map point_of pairs)) p)

  pub line_fits : length (row_text node (take k (map point_of pairs))) + length (line_text node p) ≤ length (row_text node (map point_of pairs))
  line_fits = omega (arith, length-flat_map-take (line_text node) (map point_of pairs) k no_point (omega (arith, length-map pairs point_of)), ap (λ (q : Point). length (line_text node q)) at)

body_push : (node : ℕ) (rs : List (List Point)) (r : List Point) → body_text node (rs ++ r ∷ []) ≡ body_text node rs ++ row_text (node + length rs) r
body_push node [] r = rw (add-zero, append-nil)
body_push node (q ∷ rs) r =
    let e : node + suc (length rs) ≡ node + 1 + length rs = omega arith in
    rw e (ap (λ t. row_text node q ++ t) (body_push (node + 1) rs r) ∙ sym (append_assoc (row_text node q) (body_text (node + 1) rs) (row_text (node + 1 + length rs) r)))

-- a text that grows piece by piece
pub grows : (t s : ℕ → List ℕ) → ((k : ℕ) → t (k + 1) ≡ t k ++ s k) → (k m : ℕ) → length (t k) ≤ length (t (k + m))
grows t s step k zero = rw add-zero (omega arith)
grows t s step k (suc m) =
    let r = grows t s step k m in
    let e : k + suc m ≡ k + m + 1 = omega arith in
    rw (e, step (k + m), length-append) (omega arith)

-- the piece after k fits where the whole does
pub piece_fits : (t s : ℕ → List ℕ) → ((k : ℕ) → t (k + 1) ≡ t k ++ s k) → (k n : ℕ) → k < n → length (t k) + length (s k) ≤ length (t n)
piece_fits t s step k n l =
    let r = grows t s step (k + 1) (n - (k + 1)) in
    let e : k + 1 + (n - (k + 1)) ≡ n = omega arith in
    rw (e, step k, length-append) at r

-- a row is inside the sheet
pub row_inside : (v n width size : ℕ) → v < n → n * width ≤ size → v * width + width ≤ size
row_inside v n width size l h = let m : (v + 1) * width ≤ n * width = mul-le-mul_right width (omega arith) in omega arith

-- the lines of row v come after those of the rows before it, and fit where the whole body does
module _ (cells : List ℕ) (width : ℕ) where
  abbrev pub before : ℕ → List ℕ
  before v = body_text 1 (rows cells width v)

  abbrev pub one : ℕ → List ℕ
  one v = row_text (v + 1) (points (row_of cells width v))

  pub body_more : (v : ℕ) → before (v + 1) ≡ before v ++ one v
  body_more v =
      let f : ℕ → List Point = λ v. points (row_of cells width v) in
      let e : 1 + length (rows cells width v) ≡ v + 1 = omega (arith, length-map-range_with_len f 0 v) in
      ap (body_text 1) (map-range_with_len_more f 0 v v (omega arith)) ∙ body_push 1 (rows cells width v) (f v)
      ∙ ap (λ n. body_text 1 (rows cells width v) ++ row_text n (f v)) e

  pub row_fits : (v n : ℕ) → v < n → length (before v) + length (one v) ≤ length (before n)
  row_fits v n l =
      let r = grows before one body_more (v + 1) (n - (v + 1)) in
      let e : v + 1 + (n - (v + 1)) ≡ n = omega arith in
      rw (e, body_more v, length-append) at r
