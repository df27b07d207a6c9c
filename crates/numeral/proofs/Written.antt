-- Texts written into others, one after another.
use Rattle.std.proofs.Common.{◌≡◌, ℕ, zero, suc, ◌+◌, ◌*◌, ◌/◌, ◌%◌, ◌^◌, ◌<◌, ◌≤◌, List, [], ◌∷◌, ◌++◌, length, take, drop, set, decimal, sym, ap, ◌∙◌, add-zero, add-one, arith}
use Rattle.std.proofs.Math.Nat.{pow-suc, one-le-pow}
use Rattle.numeral.specs.Texts.{written}
use Rattle.std.proofs.lemmas.Fmt.{decimal_digit, decimal_step}
use Rattle.std.proofs.lemmas.Grind.{common_steps}
use Rattle.std.proofs.lemmas.List.{append_assoc, drop_at, drop-drop, length-append, length_push, set_split, take-append-drop, take_at}

-- the digits of a number are those of its tenth, and one more
pub length_step : (n : ℕ) → 10 ≤ n → n < 2 ^ 64 → length (decimal n) ≡ length (decimal (n / 10)) + 1
length_step n h k = ap length (decimal_step n h k) ∙ length_push (decimal (n / 10)) (48 + n % 10)

-- nothing written
pub written_none : (a : ℕ) (xs : List ℕ) → xs ≡ written a [] xs
written_none a xs = rw add-zero (sym (take-append-drop a xs))

-- a text in three parts
pub front_length : (a : ℕ) (s xs : List ℕ) → a ≤ length xs → length (take a xs ++ s) ≡ a + length s
front_length a s xs h = grind (arith, common_steps)

pub length_written : (a : ℕ) (s xs : List ℕ) → a + length s ≤ length xs → length (written a s xs) ≡ length xs
length_written a s xs h = grind (arith, common_steps)

-- one text after another
pub written_more : (a : ℕ) (s t xs : List ℕ) → a + length s + length t ≤ length xs → written (a + length s) t (written a s xs) ≡ written a (s ++ t) xs
written_more a s t xs h =
    let l : a ≤ length xs = omega arith in
    let q = take a xs ++ s in
    let d = drop (a + length s) xs in
    let f : length q ≡ a + length s = front_length a s xs l in
    let w : written a s xs ≡ q ++ d = sym (append_assoc (take a xs) s d) in
    let k : take (a + length s) (q ++ d) ≡ q = take_at q d (a + length s) f in
    let m : drop (a + length s) (q ++ d) ≡ d = drop_at q d (a + length s) f in
    let r : drop (a + length s + length t) (q ++ d) ≡ drop (a + length s + length t) xs =
    sym (drop-drop (length t) (a + length s) (q ++ d)) ∙ ap (drop (length t)) m ∙ drop-drop (length t) (a + length s) xs in
    let e : a + length (s ++ t) ≡ a + length s + length t = omega (arith, length-append s t) in
    let g : q ++ (t ++ drop (a + length s + length t) xs) ≡ take a xs ++ ((s ++ t) ++ drop (a + length s + length t) xs) = simp append_assoc in
    rw (w, k, r, e) g

-- one byte
pub written_byte : (a b : ℕ) (xs : List ℕ) → a < length xs → set xs a b ≡ written a (b ∷ []) xs
written_byte a b xs h = rw (← add-one a) at (set_split xs a b h)

-- a byte after a text
pub written_push : (a : ℕ) (s : List ℕ) (b : ℕ) (xs ys : List ℕ) (n : ℕ) → ys ≡ written a s xs → n ≡ a + length s → a + length s < length xs → set ys n b ≡ written a (s ++ b ∷ []) xs
written_push a s b xs ys n e f h =
    let l : a + length s ≤ length xs = omega arith in
    let m : a + length s < length (written a s xs) = omega (arith, length_written a s xs l) in
    rw (e, f) (written_byte (a + length s) b (written a s xs) m ∙ written_more a s (b ∷ []) xs (omega arith))

-- a text after another that was written
pub written_on : (a : ℕ) (s t xs ys zs : List ℕ) (n : ℕ) → ys ≡ written a s xs → n ≡ a + length s → zs ≡ written n t ys → a + length s + length t ≤ length xs → zs ≡ written a (s ++ t) xs
written_on a s t xs ys zs n e f g h = g ∙ rw (f, e) (written_more a s t xs h)

-- a number between two powers of ten that follow each other
pub length_power : (k n : ℕ) → 10 ^ k ≤ n → n < 10 * 10 ^ k → n < 2 ^ 64 → length (decimal n) ≡ k + 1
length_power zero n l h b = ap length (decimal_digit n (omega arith))
length_power (suc k) n l h b =
    let p : 10 ^ suc k ≡ 10 ^ k * 10 = pow-suc 10 k in
    let one = one-le-pow k 10 (omega arith) in
    length_step n (omega arith) b ∙ omega (arith, length_power k (n / 10) (omega arith) (omega arith) (omega arith))
