-- Digits read one after another.
use Rattle.std.proofs.Common.{◌≡◌, ℕ, ◌+◌, ◌-◌, ◌*◌, ◌^◌, ◌<◌, min, Bool, true, false, cond, ◌&&◌, List, [], ◌∷◌, length, get_or, drop, Some, None, refl, ap, ◌∙◌, arith}
use Rattle.numeral.specs.Decimals.{number_from, read_on}
use Rattle.std.proofs.lemmas.List.{at_drop_more}
use Rattle.std.proofs.lemmas.Bool.Decides.{nat_tests}
use Rattle.std.specs.Char.{digit_value, is_ascii_digit}
use Rattle.std.specs.Str.{all_ascii_digits}

-- digits are read up to `most` as well from a number cut to `most`
pub capped : (most n : ℕ) (ds : List ℕ) → min most (number_from n ds) ≡ min most (number_from (min most n) ds)
capped most n [] = grind arith
capped most n (c ∷ cs) =
    let p = capped most (10 * n + (c - 48)) cs in
    let q = capped most (10 * min most n + (c - 48)) cs in
    let e : min most (10 * n + (c - 48)) ≡ min most (10 * min most n + (c - 48)) = grind arith in
    cc

-- one turn of reading
pub read_turn : (most n : ℕ) (xs : List ℕ) (i : ℕ) → i < length xs → read_on most n (drop i xs) ≡ cond (is_ascii_digit (get_or xs i 0)) (read_on most (min most (10 * n + (get_or xs i 0 - 48))) (drop (i + 1) xs)) None
read_turn most n xs i l =
    let c = get_or xs i 0 in
    let ds = drop (i + 1) xs in
    let Digit : Bool → Type 0 = λ b. cond (b && all_ascii_digits ds) (Some (min most (number_from (10 * n + (c - 48)) ds))) None ≡ cond b (read_on most (min most (10 * n + (c - 48))) ds) None in
    at_drop_more (read_on most n) xs i 0 l ∙ elim (is_ascii_digit c) as Digit [ true ↦ ap (λ m. cond (all_ascii_digits ds) (Some m) None) (capped most (10 * n + (c - 48)) ds) | false ↦ refl ]

pub digit_is : (c : ℕ) → digit_value c < 10 → (is_ascii_digit c ≡ true) × (digit_value c ≡ c - 48)
digit_is c l = (grind (arith, nat_tests), grind (arith, nat_tests))

-- sums and products may stop at the largest number: `most` is no larger
pub capped_turn : (most n d : ℕ) → most < 2 ^ 32 → min (min (min (n * 10) (2 ^ 32 - 1) + d) (2 ^ 32 - 1)) most ≡ min most (10 * n + d)
capped_turn most n d l = grind arith
