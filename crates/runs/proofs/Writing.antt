-- A row written in its place, from the middle of a sheet.
use Rattle.std.proofs.Common.{◌≡◌, ℕ, suc, ◌+◌, ◌*◌, ◌<◌, ◌≤◌, List, length, take, drop, sym, ap, ◌∙◌, mul-le-mul_right, suc-mul, arith}
use native.Mathlib.Decide.{dec_lt}
use borrow.Rule.Slice.PartMut.{put_mid, same_len_mid}
use Rattle.std.proofs.lemmas.List.{drop-take, length-take-le, length-drop}
use Rattle.std.proofs.lemmas.Slice.{take-put_mid_below, drop-put_mid, between-put_mid}
use Rattle.curve.specs.declared.points.Point.{Point}
use Rattle.rows.specs.Rows.{width, laid_out}
use Rattle.runs.specs.declared.Figures.{Figures}
use Rattle.runs.specs.Ready.{Rewritten}
use Rattle.runs.specs.Sheet.{row}
use Rattle.runs.proofs.Rows.{room_for, row_part}

module _ (f : Figures) (rows : List ℕ) (v a k : ℕ) (ps : List Point) (ys : List ℕ) (start : a ≡ v * width f.places) (wide : k ≡ width f.places) (room : f.nodes * width f.places ≤ length rows) (node : v < f.nodes) (long : length ys ≡ k) (laid : ys ≡ laid_out f.places ps) where
  abbrev P : ℕ
  P = f.places

  abbrev w : ℕ
  w = width P

  fit : a + k ≤ length rows
  fit = omega (arith, start, wide, room_for P f.nodes v (length rows) room node)

  -- a row that ends at a or before
  below : (x : ℕ) → x < v → row P (put_mid a k rows ys) x ≡ row P rows x
  unfolding row
  below x lt =
      let z : suc x * w ≤ v * w = mul-le-mul_right w lt in
      sym (drop-take (x * w) w (put_mid a k rows ys))
      ∙ ap (drop (x * w)) (take-put_mid_below a k rows ys (x * w + w) (omega (arith, start, suc-mul x w)) (omega (arith, fit)))
      ∙ drop-take (x * w) w rows

  -- a row that begins at a + k or after
  above : (x : ℕ) → v < x → row P (put_mid a k rows ys) x ≡ row P rows x
  unfolding row
  above x lt =
      let z : suc v * w ≤ x * w = mul-le-mul_right w lt in
      ap (take w) (drop-put_mid a k rows ys (x * w) (omega (arith, start, wide, suc-mul v w)) (omega (arith, fit)) long)

  pub rewritten : Rewritten f rows v ps (put_mid a k rows ys)
  rewritten = record {
    size = same_len_mid a k rows ys (long ∙ sym (length-take-le k (drop a rows) (simp length-drop (omega (arith, fit)))));
    others = λ x ne. elim (dec_lt x v) [ yes lt ↦ below x lt | no ge ↦ above x (omega (arith, ge, ne)) ];
    past =
        let z : suc v * w ≤ f.nodes * w = mul-le-mul_right w node in
        drop-put_mid a k rows ys (f.nodes * w) (omega (arith, start, wide, suc-mul v w)) (omega (arith, fit)) long;
    own = sym (row_part P v a k (put_mid a k rows ys) start wide) ∙ ap (λ (j : ℕ). take j (drop a (put_mid a k rows ys))) (omega arith) ∙ between-put_mid a k rows ys (a + k) (omega (arith, fit)) (omega (arith, long)) ∙ laid;
  }
