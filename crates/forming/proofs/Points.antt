-- The points of a row, number by number and pair by pair.
use Rattle.std.proofs.Common.{◌≡◌, ℕ, zero, suc, ◌+◌, ◌*◌, ◌<◌, ◌≤◌, Bool, true, false, List, [], length, map, get_or, drop, sym, refl, ap, ◌∙◌, arith, MatchBool}
use Rattle.std.proofs.lemmas.List.{get_or-drop, get_or-map, length-map}
use Rattle.std.specs.List.{AllWithin, HoldsAt}
use Rattle.curve.specs.declared.points.Point.{Point}
use Rattle.curve.specs.Curve.{no_point}
use Rattle.rows.specs.Rows.{pairs, point_of, points}
use Rattle.forming.specs.Parts.{Prompt}

abbrev pair : ℕ → ℕ → Point
pair d a = record { departure = d; arrival = a }

pairs_at : (c i : ℕ) (xs : List ℕ) → i < c → get_or (pairs c xs) i no_point ≡ pair (get_or xs (2 * i) 0) (get_or xs (2 * i + 1) 0)
unfolding pairs
pairs_at zero i xs lt = absurd (omega (arith, lt))
pairs_at (suc c) zero xs lt = refl
pairs_at (suc c) (suc i) xs lt =
    let e : 2 + 2 * i ≡ 2 * suc i = omega arith in
    let f : 2 + (2 * i + 1) ≡ 2 * suc i + 1 = omega arith in
    pairs_at c i (drop 2 xs) (omega arith)
    ∙ ap (λ (a : ℕ). pair a (get_or (drop 2 xs) (2 * i + 1) 0)) (get_or-drop 2 xs (2 * i) 0 ∙ ap (λ (k : ℕ). get_or xs k 0) e)
    ∙ ap (λ (a : ℕ). pair (get_or xs (2 * suc i) 0) a) (get_or-drop 2 xs (2 * i + 1) 0 ∙ ap (λ (k : ℕ). get_or xs k 0) f)

-- the numbers of a row, two by two, are its points
pub points_at : (row : List ℕ) (i : ℕ) → i < get_or row 0 0 → pair (get_or row (2 * i + 1) 0) (get_or row (2 * i + 2) 0) ≡ get_or (points row) i no_point
unfolding points
points_at row i lt =
    let e : 2 * i + 1 ≡ 1 + 2 * i = omega arith in
    let f : 2 * i + 2 ≡ 1 + (2 * i + 1) = omega arith in
    ap (λ (a : ℕ). pair a (get_or row (2 * i + 2) 0)) (ap (λ (k : ℕ). get_or row k 0) e ∙ sym (get_or-drop 1 row (2 * i) 0))
    ∙ ap (λ (a : ℕ). pair (get_or (drop 1 row) (2 * i) 0) a) (ap (λ (k : ℕ). get_or row k 0) f ∙ sym (get_or-drop 1 row (2 * i + 1) 0))
    ∙ sym (pairs_at (get_or row 0 0) i (drop 1 row) lt)

-- a pair arrives neither before its departure nor after limit
abbrev pub Timely : ℕ → List ℕ → Type 0
Timely limit pair = (get_or pair 0 0 ≤ get_or pair 1 0) × (get_or pair 1 0 ≤ limit)

module _ (limit : ℕ) (pairs : List (List ℕ)) where
  timely_point : (i : ℕ) → i < length pairs → Timely limit (get_or pairs i []) → ((get_or (map point_of pairs) i no_point).departure ≤ (get_or (map point_of pairs) i no_point).arrival) × ((get_or (map point_of pairs) i no_point).arrival ≤ limit)
  timely_point i lt h =
      let is = get_or-map point_of pairs i [] no_point lt in
      let d = ap (λ (p : Point). p.departure) is in
      let a = ap (λ (p : Point). p.arrival) is in
      (omega (arith, h.0, d, a), omega (arith, h.1, a))

  pub prompt_cases : (b : Bool) → MatchBool b (AllWithin (Timely limit) pairs 0 (length pairs)) ((k : ℕ) × (k < length pairs) × HoldsAt (λ p. Timely limit p → ⊥) pairs k) → MatchBool b (Prompt limit (map point_of pairs)) (Prompt limit (map point_of pairs) → ⊥)
  prompt_cases true h = record {
    after = λ i lt. (timely_point i (omega (arith, lt, length-map pairs point_of)) (h i [] (omega arith) (omega (arith, lt, length-map pairs point_of)))).0;
    before = λ i lt. (timely_point i (omega (arith, lt, length-map pairs point_of)) (h i [] (omega arith) (omega (arith, lt, length-map pairs point_of)))).1;
  }
  prompt_cases false x = λ p.
      let is = get_or-map point_of pairs x.0 [] no_point x.1 in
      let d = ap (λ (q : Point). q.departure) is in
      let a = ap (λ (q : Point). q.arrival) is in
      let after = p.after x.0 (omega (arith, x.1, length-map pairs point_of)) in
      let before = p.before x.0 (omega (arith, x.1, length-map pairs point_of)) in
      x.2 [] (omega (arith, after, d, a), omega (arith, before, a))
