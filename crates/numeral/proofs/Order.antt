-- Numbers in the order of their texts.
use Rattle.std.proofs.Common.{◌≡◌, ℕ, zero, suc, ◌+◌, ◌-◌, ◌*◌, ◌^◌, ◌<◌, ◌≤◌, true, not, ◌&&◌, eqb, ltb, leb, List, [], ◌∷◌, length, get_or, Some, refl, sym, ap, inl, inr, mul-le-mul_right, mul_assoc, arith}
use Rattle.numeral.specs.Decimals.{number_from, number_of, numeral}
use Rattle.std.proofs.lemmas.Bool.{and_parts, cases_order}
use Rattle.std.proofs.lemmas.Bool.Decides.{nat_tests}
use Rattle.std.specs.Char.{is_ascii_digit}
use Rattle.std.specs.Cmp.Lexicographic.{slice_partial_cmp}
use Rattle.std.specs.Ordering.{is_le, is_some_and, nat_cmp, partial_ordering_then}
use Rattle.std.specs.declared.cmp.Ordering.TheVariants.{Less, Equal, Greater}
use Rattle.std.specs.Str.{all_ascii_digits}
use native.Mathlib.Nat.{pow-succ', pow-le-pow_right}

pub digit_range : (c : ℕ) → is_ascii_digit c ≡ true → (48 ≤ c) × (c ≤ 57)
digit_range c e = grind (arith, nat_tests)

-- a number is below the next that has more in front
pub below : (n : ℕ) (ds : List ℕ) → all_ascii_digits ds ≡ true → number_from n ds < (n + 1) * 10 ^ length ds
below n [] e = omega arith
below n (c ∷ cs) e =
    let p = and_parts (is_ascii_digit c) (all_ascii_digits cs) e in
    let d = digit_range c p.0 in
    let r = below (10 * n + (c - 48)) cs p.1 in
    let l : 10 * n + (c - 48) + 1 ≤ (n + 1) * 10 = omega arith in
    let m = mul-le-mul_right (10 ^ length cs) l in
    rw pow-succ' (rw (← mul_assoc (n + 1) 10 (10 ^ length cs)) (omega arith))

pub above : (n : ℕ) (ds : List ℕ) → n * 10 ^ length ds ≤ number_from n ds
above n [] = omega arith
above n (c ∷ cs) =
    let r = above (10 * n + (c - 48)) cs in
    let l : n * 10 ≤ 10 * n + (c - 48) = omega arith in
    let m = mul-le-mul_right (10 ^ length cs) l in
    rw pow-succ' (rw (← mul_assoc n 10 (10 ^ length cs)) (omega arith))

-- more in front is more, however the digits go on
more_in_front : (m n : ℕ) (xs ys : List ℕ) → m < n → length xs ≡ length ys → all_ascii_digits xs ≡ true → number_from m xs < number_from n ys
more_in_front m n xs ys l e p =
    let b = rw e at (below m xs p) in
    let a = above n ys in
    let o : m + 1 ≤ n = omega arith in
    let s = mul-le-mul_right (10 ^ length ys) o in
    omega arith

-- the first digit that differs decides
pub differ : (n : ℕ) (xs ys : List ℕ) (i : ℕ) → i < length xs → length xs ≡ length ys → all_ascii_digits xs ≡ true → all_ascii_digits ys ≡ true → ((k : ℕ) → k < i → get_or xs k 0 ≡ get_or ys k 0) → get_or xs i 0 < get_or ys i 0 → number_from n xs < number_from n ys
differ n [] ys i l e p q h d = omega arith
differ n (x ∷ xs) [] i l e p q h d = omega arith
differ n (x ∷ xs) (y ∷ ys) zero l e p q h d =
    let f = and_parts (is_ascii_digit x) (all_ascii_digits xs) p in
    let g = digit_range x f.0 in
    let len : length xs ≡ length ys = omega arith in
    let b = rw len at (below (10 * n + (x - 48)) xs f.1) in
    let a = above (10 * n + (y - 48)) ys in
    let s : 10 * n + (x - 48) + 1 ≤ 10 * n + (y - 48) = omega arith in
    let m = mul-le-mul_right (10 ^ length ys) s in
    omega arith
differ n (x ∷ xs) (y ∷ ys) (suc i) l e p q h d =
    let f = and_parts (is_ascii_digit x) (all_ascii_digits xs) p in
    let g = and_parts (is_ascii_digit y) (all_ascii_digits ys) q in
    let same : x ≡ y = h 0 (omega arith) in
    rw same (differ (10 * n + (y - 48)) xs ys i (omega arith) (omega arith) f.1 g.1 (λ k b. h (suc k) (omega arith)) d)

-- digits of one length go in the order of their numbers
same_length : (n : ℕ) (xs ys : List ℕ) → length xs ≡ length ys → all_ascii_digits xs ≡ true → all_ascii_digits ys ≡ true → slice_partial_cmp (λ x y. Some (nat_cmp x y)) xs ys ≡ Some (nat_cmp (number_from n xs) (number_from n ys))
same_length n [] [] e p q = let s : nat_cmp n n ≡ Equal = grind (arith, nat_tests) in ap Some (sym s)
same_length n [] (y ∷ ys) e p q = absurd (omega arith)
same_length n (x ∷ xs) [] e p q = absurd (omega arith)
same_length n (x ∷ xs) (y ∷ ys) e p q =
    let f = and_parts (is_ascii_digit x) (all_ascii_digits xs) p in
    let g = and_parts (is_ascii_digit y) (all_ascii_digits ys) q in
    let len : length xs ≡ length ys = omega arith in
    let a = digit_range x f.0 in
    let b = digit_range y g.0 in
    elim (cases_order x y) [
      | inl s ↦
          let t : nat_cmp y y ≡ Equal = grind (arith, nat_tests) in
          rw (s, t) (same_length (10 * n + (y - 48)) xs ys len f.1 g.1)
      | inr (inl s) ↦
          let t : nat_cmp x y ≡ Less = grind (arith, nat_tests) in
          let m = more_in_front (10 * n + (x - 48)) (10 * n + (y - 48)) xs ys (omega arith) len f.1 in
          let u : nat_cmp (number_from (10 * n + (x - 48)) xs) (number_from (10 * n + (y - 48)) ys) ≡ Less = grind (arith, nat_tests) in
          rw (t, u) refl
      | inr (inr s) ↦
          let t : nat_cmp x y ≡ Greater = grind (arith, nat_tests) in
          let m = more_in_front (10 * n + (y - 48)) (10 * n + (x - 48)) ys xs (omega arith) (sym len) g.1 in
          let u : nat_cmp (number_from (10 * n + (x - 48)) xs) (number_from (10 * n + (y - 48)) ys) ≡ Greater = grind (arith, nat_tests) in
          rw (t, u) refl
    ]

-- the parts of a numeral
pub record Plain (ds : List ℕ) : Type 0 where
  pub some : 0 < length ds
  pub first : 1 < length ds → get_or ds 0 0 ≡ 48 → ⊥
  pub digits : all_ascii_digits ds ≡ true

pub plain : (ds : List ℕ) → numeral ds ≡ true → Plain ds
plain ds e =
    let p = and_parts (not (eqb (length ds) 0)) (not (eqb (get_or ds 0 0) 48 && ltb 1 (length ds)) && all_ascii_digits ds) e in
    let q = and_parts (not (eqb (get_or ds 0 0) 48 && ltb 1 (length ds))) (all_ascii_digits ds) p.1 in
    record { some = grind (arith, nat_tests); first = λ l f. grind (arith, nat_tests); digits = q.1 }

-- the longer is more
pub shorter : (xs ys : List ℕ) → Plain xs → Plain ys → length xs < length ys → number_of xs < number_of ys
shorter xs [] p q l = omega arith
shorter xs (y ∷ ys) p q l =
    let f = and_parts (is_ascii_digit y) (all_ascii_digits ys) q.digits in
    let g = digit_range y f.0 in
    let n : y ≡ 48 → ⊥ = q.first (omega (arith, p.some)) in
    let b = below 0 xs p.digits in
    let a = above (10 * 0 + (y - 48)) ys in
    let one : 1 ≤ 10 * 0 + (y - 48) = omega arith in
    let m = mul-le-mul_right (10 ^ length ys) one in
    let k : length xs ≤ length ys = omega arith in
    let ten : 0 < 10 = omega arith in
    let w = pow-le-pow_right ten k in
    omega arith

-- numerals go in the order of their lengths, and then of their digits
pub compared : (xs ys : List ℕ) → numeral xs ≡ true → numeral ys ≡ true → is_some_and is_le (partial_ordering_then (Some (nat_cmp (length xs) (length ys))) (slice_partial_cmp (λ x y. Some (nat_cmp x y)) xs ys)) ≡ leb (number_of xs) (number_of ys)
compared xs ys p q =
    let r = plain xs p in
    let s = plain ys q in
    elim (cases_order (length xs) (length ys)) [
      | inl e ↦
          let t : nat_cmp (length xs) (length ys) ≡ Equal = grind (arith, nat_tests) in
          let u = same_length 0 xs ys e r.digits s.digits in
          rw (t, u) (grind (arith, nat_tests))
      | inr (inl l) ↦
          let t : nat_cmp (length xs) (length ys) ≡ Less = grind (arith, nat_tests) in
          let u = shorter xs ys r s l in
          rw t (grind (arith, nat_tests))
      | inr (inr l) ↦
          let t : nat_cmp (length xs) (length ys) ≡ Greater = grind (arith, nat_tests) in
          let u = shorter ys xs s r l in
          rw t (grind (arith, nat_tests))
    ]
