-- Rows that hold a label or nothing, told by their numbers.
use Rattle.std.proofs.Common.{◌≡◌, ℕ, zero, suc, ◌+◌, ◌-◌, ◌*◌, ◌<◌, ◌≤◌, List, [], ◌∷◌, ◌++◌, length, get_or, take, drop, replicate, sym, refl, ap, ◌∙◌, subst, one-add, arith}
use Rattle.std.proofs.lemmas.List.{length-drop, length-replicate, drop-drop, drop_at, drop-replicate, get_or-replicate, ext_get_or, drop_more, take_rest, take-append-drop}
use Rattle.curve.specs.declared.points.Point.{Point}
use Rattle.rows.specs.Rows.{width, flat, pairs, points, laid_out, laid_back}
use Rattle.runs.specs.Formed.{Label, Row, blank, holds}
use Rattle.runs.specs.Sheet.{diagonal}
use Rattle.runs.proofs.Rows.{count_points}
use Rattle.forming.specs.Parts.{Zero}

-- a list of zeros, element by element
pub zeros : (xs : List ℕ) → ((k : ℕ) → k < length xs → get_or xs k 0 ≡ 0) → Zero xs
zeros xs h = ext_get_or 0 xs (replicate (length xs) 0) (sym (length-replicate (length xs) 0)) (λ i lt. h i lt ∙ sym (get_or-replicate (length xs) i 0 0 lt))

pub zero_replicate : (n : ℕ) → Zero (replicate n 0)
zero_replicate n = ap (λ (k : ℕ). replicate {A = ℕ} k 0) (sym (length-replicate {A = ℕ} n 0))

-- the part of a row that is lent from k on
pub zero_part : (xs : List ℕ) (k : ℕ) → Zero (take (length xs - k) (drop k xs)) → Zero (drop k xs)
zero_part xs k z = subst Zero (take_rest xs k) z

pub zero_part⁻ : (xs : List ℕ) (k : ℕ) → Zero (drop k xs) → Zero (take (length xs - k) (drop k xs))
zero_part⁻ xs k z = subst Zero (sym (take_rest xs k)) z

-- the numbers of the first c pairs, and the rest
flat_pairs : (c : ℕ) (xs : List ℕ) → 2 * c ≤ length xs → flat (pairs c xs) ++ drop (2 * c) xs ≡ xs
unfolding pairs
flat_pairs zero xs le = refl
flat_pairs (suc c) [] le = absurd (omega (arith, le))
flat_pairs (suc c) (x ∷ []) le = absurd (omega (arith, le))
flat_pairs (suc c) (x ∷ (y ∷ xs)) le =
    let e : 2 * suc c ≡ suc (suc (2 * c)) = omega arith in
    ap (λ (k : ℕ). x ∷ (y ∷ (flat (pairs c xs) ++ drop k (x ∷ (y ∷ xs))))) e ∙ ap (λ (zs : List ℕ). x ∷ (y ∷ zs)) (flat_pairs c xs (omega arith))

module _ (P : ℕ) (xs : List ℕ) (wide : length xs ≡ width P) where
  -- how many points the row says that it has
  abbrev count : ℕ
  count = get_or xs 0 0

  -- with 0 after them, the row is its points laid out
  pub laid : count ≤ P → Zero (drop (1 + 2 * count) xs) → xs ≡ laid_out P (points xs)
  unfolding points laid_out
  laid le rest =
      let first : xs ≡ count ∷ drop 1 xs = drop_more xs 0 0 (omega arith) in
      let size : length (drop (1 + 2 * count) xs) ≡ 2 * P - 2 * length (points xs) = length-drop (1 + 2 * count) xs ∙ omega (arith, count_points xs) in
      let left : drop (2 * count) (drop 1 xs) ≡ replicate (2 * P - 2 * length (points xs)) 0 = drop-drop (2 * count) 1 xs ∙ rest ∙ ap (λ (k : ℕ). replicate {A = ℕ} k 0) size in
      first
      ∙ ap (λ (ys : List ℕ). count ∷ ys) (sym (flat_pairs count (drop 1 xs) (simp length-drop (omega arith))))
      ∙ ap (λ (ys : List ℕ). count ∷ (flat (points xs) ++ ys)) left
      ∙ ap (λ (k : ℕ). k ∷ (flat (points xs) ++ replicate (2 * P - 2 * length (points xs)) 0)) (sym (count_points xs))

  -- and it holds them, if they are a label
  pub holds_label : (H limit : ℕ) → count ≤ P → Zero (drop (1 + 2 * count) xs) → Label H limit (points xs) → Row P H limit xs
  holds_label H limit le rest lab = holds (points xs) (laid le rest) (omega (arith, count_points xs)) lab

  -- without points it is blank
  pub is_blank : (H limit : ℕ) → count ≡ 0 → Zero (drop (1 + 2 * count) xs) → Row P H limit xs
  unfolding points pairs laid_out
  is_blank H limit none rest =
      let e = laid (omega arith) rest in
      let f : suc (2 * P - 0) ≡ width P = omega arith in
      blank (e ∙ ap (λ (k : ℕ). laid_out P (pairs k (drop 1 xs))) none ∙ ap (λ (k : ℕ). replicate {A = ℕ} k 0) f)

-- what such a row tells
pub record Tells (P H limit : ℕ) (xs : List ℕ) : Type 0 where
  pub few : get_or xs 0 0 ≤ P
  pub rest : Zero (drop (1 + 2 * get_or xs 0 0) xs)
  pub label : (get_or xs 0 0 ≡ 0 → ⊥) → Label H limit (points xs)

zero_rest : (k n : ℕ) → Zero (drop k (replicate n 0))
zero_rest k n = subst Zero (sym (drop-replicate k n 0)) (zero_replicate (n - k))

laid_rest : (P : ℕ) (ps : List Point) → drop (1 + 2 * length ps) (laid_out P ps) ≡ replicate (2 * P - 2 * length ps) 0
unfolding laid_out
laid_rest P ps = ap (λ (k : ℕ). drop k (laid_out P ps)) (one-add (2 * length ps)) ∙ drop_at (flat ps) (replicate (2 * P - 2 * length ps) 0) (2 * length ps) (length_flat ps)
  where
    length_flat : (qs : List Point) → length (flat qs) ≡ 2 * length qs
    length_flat [] = refl
    length_flat (q ∷ qs) = omega (arith, length_flat qs)

laid_count : (P : ℕ) (ps : List Point) → get_or (laid_out P ps) 0 0 ≡ length ps
unfolding laid_out
laid_count P ps = refl

pub row_tells : (P H limit : ℕ) (xs : List ℕ) → Row P H limit xs → Tells P H limit xs
row_tells P H limit xs (blank e) = subst (Tells P H limit) (sym e) (record {
  few = omega (arith, none);
  rest = zero_rest (1 + 2 * get_or {A = ℕ} (replicate (width P) 0) 0 0) (width P);
  label = λ some. absurd (some none);
})
  where
    none : get_or {A = ℕ} (replicate (width P) 0) 0 0 ≡ 0
    none = get_or-replicate (width P) 0 0 0 (omega arith)
row_tells P H limit xs (holds ps e fit lab) = subst (Tells P H limit) (sym e) (record {
  few = omega (arith, size);
  rest = subst Zero (sym (ap (λ (k : ℕ). drop (1 + 2 * k) (laid_out P ps)) size ∙ laid_rest P ps)) (zero_replicate (2 * P - 2 * length ps));
  label = λ some. subst (Label H limit) (sym (laid_back P ps)) lab;
})
  where
    size : get_or (laid_out P ps) 0 0 ≡ length ps
    size = laid_count P ps

-- an origin's row, by its numbers
pub record Diagonal (H : ℕ) (xs : List ℕ) : Type 0 where
  pub first : take 5 xs ≡ 2 ∷ (0 ∷ (0 ∷ (H ∷ (H ∷ []))))
  pub rest : Zero (drop 5 xs)

pub diagonal_tells : (P H : ℕ) (xs : List ℕ) → xs ≡ laid_out P (diagonal H) → Diagonal H xs
unfolding laid_out
diagonal_tells P H xs e = subst (Diagonal H) (sym e) (record { first = refl; rest = zero_replicate (2 * P - 4) })

pub diagonal_made : (P H : ℕ) (xs : List ℕ) → length xs ≡ width P → Diagonal H xs → xs ≡ laid_out P (diagonal H)
unfolding laid_out
diagonal_made P H xs wide d =
    let left : drop 5 xs ≡ replicate (2 * P - 4) 0 = d.rest ∙ ap (λ (k : ℕ). replicate {A = ℕ} k 0) (length-drop 5 xs ∙ omega arith) in
    sym (take-append-drop 5 xs) ∙ ap (λ (ys : List ℕ). ys ++ drop 5 xs) d.first ∙ ap (λ (ys : List ℕ). 2 ∷ (0 ∷ (0 ∷ (H ∷ (H ∷ ys))))) left
