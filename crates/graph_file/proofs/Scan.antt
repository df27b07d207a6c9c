-- What a scan finds.
use Rattle.std.proofs.Common.{◌≡◌, ℕ, zero, suc, ◌+◌, ◌-◌, ◌<◌, ◌≤◌, ◌≢◌, Option, Bool, true, false, cond, not, leb, ltb, List, length, get_or, Some, None, sym, refl, ap, ◌∙◌, inl, inr, arith}
use Rattle.curve.specs.Curve.{no_point}
use Rattle.curve.specs.declared.points.Point.{Point}
use Rattle.std.specs.List.{IsAllAdjacentAnswer, find, range_with_len}
use Rattle.graph_file.specs.Loads.{falls_from}
use Rattle.std.proofs.lemmas.Bool.{cases_Bool, cases_eq, cond-false, cond-true, le-ltb, ltb-false, ltb-true}
use Rattle.std.proofs.lemmas.Bool.Decides.{nat_tests}

-- where no step falls, none of them does
pub none_falls : (a : ℕ → ℕ) (i n : ℕ) → falls_from a i n ≡ false → (j : ℕ) → i ≤ j → j < i + n → a j ≤ a (j + 1)
none_falls a i zero e j l m = omega arith
none_falls a i (suc n) e j l m =
    elim (cases_Bool (ltb (a (i + 1)) (a i))) [
      | inl t ↦ let f : true ≡ false = sym (cond-true (ltb (a (i + 1)) (a i)) true (falls_from a (i + 1) n) t) ∙ e in grind (arith, nat_tests)
      | inr t ↦
          let f = sym (cond-false (ltb (a (i + 1)) (a i)) true (falls_from a (i + 1) n) t) ∙ e in
          elim (cases_eq j i) [
            | inl s ↦ rw s (ltb-false (a (i + 1)) (a i) t)
            | inr s ↦ none_falls a (i + 1) n f j (omega (arith, s)) (omega arith)
          ]
    ]

-- a step that falls
pub some_falls : (a : ℕ → ℕ) (i n : ℕ) → falls_from a i n ≡ true → (j : ℕ) × (i ≤ j) × (j < i + n) × (a (j + 1) < a j)
some_falls a i zero e = let f : false ≡ true = e in (i, grind (arith, nat_tests), grind (arith, nat_tests), grind (arith, nat_tests))
some_falls a i (suc n) e =
    elim (cases_Bool (ltb (a (i + 1)) (a i))) [
      | inl t ↦ (i, omega arith, omega arith, ltb-true (a (i + 1)) (a i) t)
      | inr t ↦
          let r = some_falls a (i + 1) n (sym (cond-false (ltb (a (i + 1)) (a i)) true (falls_from a (i + 1) n) t) ∙ e) in
          (r.0, omega (arith, r.1), omega (arith, r.2), r.3)
    ]

-- no step that falls
pub falls_none : (a : ℕ → ℕ) (i n : ℕ) → ((j : ℕ) → i ≤ j → j < i + n → a j ≤ a (j + 1)) → falls_from a i n ≡ false
falls_none a i zero h = refl
falls_none a i (suc n) h =
    cond-false (ltb (a (i + 1)) (a i)) true (falls_from a (i + 1) n) (le-ltb (a (i + 1)) (a i) (h i (omega arith) (omega arith)))
    ∙ falls_none a (i + 1) n (λ j l m. h j (omega arith) (omega arith))

-- what `find` says of a range
pub record Found (t : ℕ → Bool) (r n m : ℕ) : Type 0 where
  pub from : r ≤ m
  pub below : m < r + n
  pub passes : t m ≡ true
  pub lower : (j : ℕ) → r ≤ j → j < m → t j ≡ false

found_by : (t : ℕ → Bool) (r n m : ℕ) (b : Bool) → t r ≡ b → ((find t (range_with_len (r + 1) n) ≡ Some m) → Found t (r + 1) n m) → cond b (Some r) (find t (range_with_len (r + 1) n)) ≡ Some m → Found t r (suc n) m
found_by t r n m true s go e = let q : r ≡ m = cc in record { from = omega arith; below = omega arith; passes = ap t (sym q) ∙ s; lower = λ j l k. absurd (omega arith) }
found_by t r n m false s go e =
    let f = go e in
    record { from = omega (arith, f.from); below = omega (arith, f.below); passes = f.passes; lower = λ j l k. elim (cases_eq j r) [ inl q ↦ rw q s | inr q ↦ f.lower j (omega arith) k ] }

pub found : (t : ℕ → Bool) (r n m : ℕ) → find t (range_with_len r n) ≡ Some m → Found t r n m
found t r zero m e = absurd (cc)
found t r (suc n) m e = found_by t r n m (t r) refl (found t (r + 1) n m) e

none_by : (t : ℕ → Bool) (r j : ℕ) (b : Bool) (o : Option ℕ) → t r ≡ b → (o ≡ None → j ≢ r → t j ≡ false) → cond b (Some r) o ≡ None → t j ≡ false
none_by t r j true o s go e = absurd (cc)
none_by t r j false o s go e = elim (cases_eq j r) [ inl q ↦ rw q s | inr q ↦ go e q ]

pub none_found : (t : ℕ → Bool) (r n : ℕ) → find t (range_with_len r n) ≡ None → (j : ℕ) → r ≤ j → j < r + n → t j ≡ false
none_found t r zero e j l m = absurd (omega arith)
none_found t r (suc n) e j l m = none_by t r j (t r) (find t (range_with_len (r + 1) n)) refl (λ f q. none_found t (r + 1) n f j (omega arith) (omega arith)) e

pub finds_none : (t : ℕ → Bool) (r n : ℕ) → ((j : ℕ) → r ≤ j → j < r + n → t j ≡ false) → find t (range_with_len r n) ≡ None
finds_none t r zero h = refl
finds_none t r (suc n) h = rw (h r (omega arith) (omega arith)) (finds_none t (r + 1) n (λ j l m. h j (omega arith) (omega arith)))

pub finds_same : (t u : ℕ → Bool) (r n : ℕ) → ((j : ℕ) → r ≤ j → j < r + n → t j ≡ u j) → find t (range_with_len r n) ≡ find u (range_with_len r n)
finds_same t u r zero h = refl
finds_same t u r (suc n) h =
    let x = h r (omega arith) (omega arith) in
    let s = finds_same t u (r + 1) n (λ j l m. h j (omega arith) (omega arith)) in
    simp (x, s)

pub falls_some : (a : ℕ → ℕ) (i n j : ℕ) → i ≤ j → j < i + n → a (j + 1) < a j → falls_from a i n ≡ true
falls_some a i n j l m h =
    elim (cases_Bool (falls_from a i n)) [
      | inl t ↦ t
      | inr f ↦ let no = none_falls a i n f j l m in absurd (omega arith)
    ]

-- points that are not in order fall
pub unordered_falls : (ps : List Point) (ordered : Bool) → IsAllAdjacentAnswer (λ x y b. b ≡ leb x.arrival y.arrival) ps ordered → not ordered ≡ falls_from (λ i. (get_or ps i no_point).arrival) 0 (length ps - 1)
unordered_falls ps true h = sym (falls_none (λ i. (get_or ps i no_point).arrival) 0 (length ps - 1) (λ j l m. let e = h j no_point (omega arith) in grind (arith, nat_tests)))
unordered_falls ps false h = sym (falls_some (λ i. (get_or ps i no_point).arrival) 0 (length ps - 1) h.0 (omega arith) (omega arith) (let e = h.2 no_point in grind (arith, nat_tests)))
