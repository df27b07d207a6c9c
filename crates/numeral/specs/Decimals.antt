-- Decimal numbers as text. What a number writes is `decimal`.
use Rattle.std.specs.Prelude.{◌≡◌, ℕ, ◌+◌, ◌-◌, ◌*◌, ◌^◌, ◌<◌, min, Bool, cond, not, ◌&&◌, List, [], ◌∷◌, length, Some, None, decimal, Option, ◌==◌, nat_lt, slice_index}
use Rattle.std.specs.Str.{all_ascii_digits}

-- the number that digits write, after those of n; 48 is the character 0
abbrev pub number_from : ℕ → List ℕ → ℕ
number_from n [] = n
number_from n (c ∷ cs) = number_from (10 * n + (c - 48)) cs

abbrev pub number_of : List ℕ → ℕ
number_of ds = number_from 0 ds

-- digits, at least one, and no zero in front of another
abbrev pub numeral : List ℕ → Bool
numeral ds = not (length ds == 0) && (not (slice_index ds 0 == 48 && nat_lt 1 (length ds)) && all_ascii_digits ds)

-- the number that a text writes, or none where it is no number
abbrev pub number_in : List ℕ → Option ℕ
number_in ds = cond (numeral ds) (Some (number_of ds)) None

-- the same, where all from `most` on stand as `most`
abbrev pub read_up_to : ℕ → List ℕ → Option ℕ
read_up_to most ds = cond (numeral ds) (Some (min most (number_of ds))) None

-- the same after the digits of n
abbrev pub read_on : ℕ → ℕ → List ℕ → Option ℕ
read_on most n ds = cond (all_ascii_digits ds) (Some (min most (number_from n ds))) None

-- what is written is read back
abbrev pub ReadsWhatIsWritten : Type 0
ReadsWhatIsWritten = (n : ℕ) → n < 2 ^ 64 → number_in (decimal n) ≡ Some n

-- and no other text says the same number
abbrev pub WritesWhatIsRead : Type 0
WritesWhatIsRead = (text : List ℕ) (n : ℕ) → number_in text ≡ Some n → n < 2 ^ 64 → decimal n ≡ text
