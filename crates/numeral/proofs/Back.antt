-- Numbers written and read back.
use Rattle.std.proofs.Common.{◌≡◌, ℕ, ◌^◌, ◌<◌, Bool, true, false, cond, List, length, Some, None, decimal, sym, refl, ap, ◌∙◌, inl, inr, arith, rules}
use Rattle.numeral.proofs.Order.{plain}
use Rattle.numeral.specs.Decimals.{ReadsWhatIsWritten, WritesWhatIsRead, number_from, number_of, numeral}
use Rattle.std.proofs.lemmas.Fmt.{decimal_digit, decimal_nonempty, decimal-digits_value, digits_decimal, first_decimal, digits_value-decimal}
use Rattle.std.proofs.lemmas.Str.Parse.{IsNumeralModel, numerals_by_fold}
use Rattle.std.proofs.lemmas.Bool.{cases_lt}
use Rattle.std.proofs.lemmas.Bool.Decides.{nat_tests}
use Rattle.std.specs.Str.{all_ascii_digits}

pub own : IsNumeralModel (λ ds. all_ascii_digits ds ≡ true) (number_from 0)
own = numerals_by_fold _ (search rules) number_from (search rules)

pub decimal_digits : (n : ℕ) → n < 2 ^ 64 → all_ascii_digits (decimal n) ≡ true
decimal_digits n h = digits_decimal own n h

pub decimal_number : (n : ℕ) → n < 2 ^ 64 → number_of (decimal n) ≡ n
decimal_number n h = digits_value-decimal own n h

pub decimal_numeral : (n : ℕ) → n < 2 ^ 64 → numeral (decimal n) ≡ true
decimal_numeral n h =
    let d = decimal_digits n h in
    let s = decimal_nonempty n h in
    elim (cases_lt 0 n) [
      | inl l ↦ let f = first_decimal n l h in grind (arith, nat_tests)
      | inr l ↦ let f = ap length (decimal_digit n (omega arith)) in grind (arith, nat_tests)
    ]

pub number_back : (ds : List ℕ) → numeral ds ≡ true → number_of ds < 2 ^ 64 → decimal (number_of ds) ≡ ds
number_back ds e h =
    let p = plain ds e in
    decimal-digits_value own ds p.digits p.some (λ f. elim (cases_lt 1 (length ds)) [ inl l ↦ let no = p.first l f in elim no [ ] | inr l ↦ omega (arith, p.some) ]) h

pub reads_what_is_written : ReadsWhatIsWritten
reads_what_is_written n h = rw (decimal_numeral n h, decimal_number n h) refl

-- a number that was read
some_number : (b : Bool) (m n : ℕ) → cond b (Some m) None ≡ Some n → (b ≡ true) × (m ≡ n)
some_number true m n e = (refl, (cc))
some_number false m n e = absurd (cc)

pub writes_what_is_read : WritesWhatIsRead
writes_what_is_read text n e h =
    let p = some_number (numeral text) (number_of text) n e in
    ap decimal (sym p.1) ∙ number_back text p.0 (omega (arith, p.1))
