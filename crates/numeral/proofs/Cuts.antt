-- A text cut at the first place of a byte.
use Rattle.std.proofs.Common.{◌≡◌, ℕ, zero, suc, ◌+◌, ◌<◌, List, [], ◌∷◌, length, get_or, take, drop, Some, None, Option, MatchOption, refl, add-one, arith}
use Rattle.numeral.specs.Texts.{cut}
use Rattle.std.proofs.lemmas.Bool.{eq-eqb, ne_eqb}
use Rattle.std.specs.List.{AllWithin, HoldsAt}
use Rattle.std.specs.Option.{option_map}

pub cut_here : (c : ℕ) (xs : List ℕ) (i : ℕ) → i < length xs → ((k : ℕ) → k < i → get_or xs k 0 ≡ c → ⊥) → get_or xs i 0 ≡ c → cut c xs ≡ Some (take i xs, drop (i + 1) xs)
cut_here c [] i l h e = absurd (omega arith)
cut_here c (b ∷ bs) zero l h e = let t = eq-eqb b c e in simp t
cut_here c (b ∷ bs) (suc i) l h e =
    let t = ne_eqb b c (h 0 (omega arith)) in
    let r = cut_here c bs i (omega arith) (λ k m. h (suc k) (omega arith)) e in
    simp (t, r, add-one)

pub cut_none : (c : ℕ) (xs : List ℕ) → ((k : ℕ) → k < length xs → get_or xs k 0 ≡ c → ⊥) → cut c xs ≡ None
cut_none c [] h = refl
cut_none c (b ∷ bs) h =
    let t = ne_eqb b c (h 0 (omega arith)) in
    let r = cut_none c bs (λ k m. h (suc k) (omega arith)) in
    simp (t, r)

-- by the first place of c, if it has one
pub cut_first : (c : ℕ) (xs : List ℕ) (place : Option ℕ) → MatchOption place (AllWithin (λ b. b ≡ c → ⊥) xs 0 (length xs)) (λ i. (i < length xs) × HoldsAt (λ b. b ≡ c) xs i × AllWithin (λ b. b ≡ c → ⊥) xs 0 i) → cut c xs ≡ option_map (λ i. (take i xs, drop (i + 1) xs)) place
cut_first c xs None h = cut_none c xs (λ k l. h k 0 (omega arith) l)
cut_first c xs (Some i) h = cut_here c xs i h.0 (λ k l. h.2 k 0 (omega arith) l) (h.1 0)
