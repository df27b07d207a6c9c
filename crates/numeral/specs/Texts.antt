-- Texts: written into others, cut at a character, told line by line.
use Rattle.std.specs.Prelude.{ℕ, ◌+◌, cond, List, [], ◌∷◌, ◌++◌, length, take, drop, Some, None, Option, ◌==◌}

-- the text s at the place a of xs, and nothing else changed
abbrev pub written : ℕ → List ℕ → List ℕ → List ℕ
written a s xs = take a xs ++ (s ++ drop (a + length s) xs)

-- a character in front of the first part
abbrev pub before : ℕ → Option (List ℕ × List ℕ) → Option (List ℕ × List ℕ)
before b None = None
before b (Some p) = Some (b ∷ p.0, p.1)

-- the part before the first c, and the part after it
abbrev pub cut : ℕ → List ℕ → Option (List ℕ × List ℕ)
cut c [] = None
cut c (b ∷ bs) = cond (b == c) (Some ([], bs)) (before b (cut c bs))

-- a character in front of the first line
abbrev pub on_first : ℕ → List (List ℕ) → List (List ℕ)
on_first b [] = (b ∷ []) ∷ []
on_first b (l ∷ ls) = (b ∷ l) ∷ ls

-- a line feed, 10, ends a line; the last line may have none, and after the last line feed no line begins
abbrev pub lines : List ℕ → List (List ℕ)
lines [] = []
lines (b ∷ bs) = cond (b == 10) ([] ∷ lines bs) (on_first b (lines bs))
