-- A text cut at its first line feed, and its lines.
use Rattle.std.proofs.Common.{◌≡◌, ℕ, ◌+◌, ◌<◌, ◌≤◌, Bor, Bool, true, false, cond, eqb, List, [], ◌∷◌, length, Some, None, Option, MatchOption, refl, ap, ◌∙◌, subst, arith}
use Rattle.numeral.specs.Texts.{before, cut, lines, on_first}
use Rattle.std.specs.Option.{unwrap_or}

-- the lines of a text that has one, by the cut
abbrev by_cut : List ℕ → Option (List ℕ × List ℕ) → List (List ℕ)
by_cut bs None = bs ∷ []
by_cut bs (Some p) = p.0 ∷ lines p.1

first_on : (b : ℕ) (bs : List ℕ) (o : Option (List ℕ × List ℕ)) → on_first b (by_cut bs o) ≡ by_cut (b ∷ bs) (before b o)
first_on b bs None = refl
first_on b bs (Some p) = refl

-- a byte and what stands after it: `more` says it where the byte is no line feed
turn : (b : ℕ) (bs : List ℕ) → on_first b (lines bs) ≡ by_cut (b ∷ bs) (before b (cut 10 bs)) → lines (b ∷ bs) ≡ by_cut (b ∷ bs) (cut 10 (b ∷ bs))
turn b bs more =
    let Here : Bool → Type 0 = λ t. cond t ([] ∷ lines bs) (on_first b (lines bs)) ≡ by_cut (b ∷ bs) (cond t (Some ([], bs)) (before b (cut 10 bs))) in
    elim (eqb b 10) as Here [ true ↦ refl | false ↦ more ]

lines_cut : (b : ℕ) (bs : List ℕ) → lines (b ∷ bs) ≡ by_cut (b ∷ bs) (cut 10 (b ∷ bs))
lines_cut b [] = turn b [] refl
lines_cut b (x ∷ xs) = turn b (x ∷ xs) (ap (on_first b) (lines_cut x xs) ∙ first_on b (x ∷ xs) (cut 10 (x ∷ xs)))

pub lines_some : (bs front after : List ℕ) → cut 10 bs ≡ Some (front, after) → lines bs ≡ front ∷ lines after
lines_some [] front after e = absurd (cc)
lines_some (b ∷ bs) front after e = lines_cut b bs ∙ ap (by_cut (b ∷ bs)) e

pub lines_none : (bs : List ℕ) → 0 < length bs → cut 10 bs ≡ None → lines bs ≡ bs ∷ []
lines_none [] h e = absurd (omega arith)
lines_none (b ∷ bs) h e = lines_cut b bs ∙ ap (by_cut (b ∷ bs)) e

-- what is after the cut is shorter
abbrev Shorter : List ℕ → Option (List ℕ × List ℕ) → Type 0
Shorter bs None = Unit {0}
Shorter bs (Some p) = length p.1 < length bs

shorter_before : (b : ℕ) (bs : List ℕ) (o : Option (List ℕ × List ℕ)) → Shorter bs o → Shorter (b ∷ bs) (before b o)
shorter_before b bs None h = tt
shorter_before b bs (Some p) h = omega arith

pub cut_shorter : (bs : List ℕ) → Shorter bs (cut 10 bs)
cut_shorter [] = tt
cut_shorter (b ∷ bs) =
    elim (eqb b 10) as (λ t. Shorter (b ∷ bs) (cond t (Some ([], bs)) (before b (cut 10 bs)))) [ true ↦ omega arith | false ↦ shorter_before b bs (cut 10 bs) (cut_shorter bs) ]

pub after_shorter : (bs front after : List ℕ) → cut 10 bs ≡ Some (front, after) → length after < length bs
after_shorter bs front after e = subst (Shorter bs) e (cut_shorter bs)

-- the text up to the first line feed and the text after it, or the whole text and none
pub first_of : (bs : List ℕ) (o : Option (Bor (List ℕ) × Bor (List ℕ))) (d : Bor (List ℕ) × Bor (List ℕ)) → 0 < length bs → MatchOption o (cut 10 bs ≡ None) (λ p. cut 10 bs ≡ Some (p.0.now, p.1.now)) → d.0.now ≡ bs → d.1.now ≡ [] → (lines bs ≡ (unwrap_or o d).0.now ∷ lines (unwrap_or o d).1.now) × (length (unwrap_or o d).1.now < length bs)
first_of bs None d l h e f = (lines_none bs l h ∙ rw (e, f) refl, rw f l)
first_of bs (Some p) d l h e f = (lines_some bs p.0.now p.1.now h, after_shorter bs p.0.now p.1.now h)

-- a text has no more lines than bytes
on_first_few : (b : ℕ) (ls : List (List ℕ)) (n : ℕ) → length ls ≤ n → length (on_first b ls) ≤ n + 1
on_first_few b [] n h = omega arith
on_first_few b (l ∷ ls) n h = omega arith

pub lines_few : (bs : List ℕ) → length (lines bs) ≤ length bs
lines_few [] = omega arith
lines_few (b ∷ bs) =
    let h = lines_few bs in
    let f = on_first_few b (lines bs) (length bs) h in
    elim (eqb b 10) as (λ t. length (cond t ([] ∷ lines bs) (on_first b (lines bs))) ≤ length (b ∷ bs)) [ true ↦ omega arith | false ↦ omega arith ]
