-- Answers by cases.
use Rattle.std.proofs.Common.{◌≡◌, ℕ, ◌<◌, Bool, true, false, length, MatchBool, sym, ◌∙◌, subst, arith}
use Rattle.std.proofs.lemmas.List.FromFn.{length-range_with_len, get_or-range_with_len}
use Rattle.std.specs.List.{range_with_len, AllWithin, HoldsAt}

-- the fact in each case, made another
pub when_map : {P P' Q Q' : Type 0} (b : Bool) → (P → P') → (Q → Q') → MatchBool b P Q → MatchBool b P' Q'
when_map true f g h = f h
when_map false f g h = g h

-- a test that passed, or failed
pub when_so : (P Q : Type 0) (b : Bool) → b ≡ true → P → MatchBool b P Q
when_so P Q b e h = subst (λ (x : Bool). MatchBool x P Q) (sym e) h

pub when_not : (P Q : Type 0) (b : Bool) → b ≡ false → Q → MatchBool b P Q
when_not P Q b e h = subst (λ (x : Bool). MatchBool x P Q) (sym e) h

-- what `all` says of the numbers below n
pub when_below : (P : ℕ → Type 0) (n : ℕ) (b : Bool) → MatchBool b (AllWithin P (range_with_len 0 n) 0 (length (range_with_len 0 n))) ((k : ℕ) × (k < length (range_with_len 0 n)) × HoldsAt (λ v. P v → ⊥) (range_with_len 0 n) k)
    → MatchBool b ((v : ℕ) → v < n → P v) (((v : ℕ) → v < n → P v) → ⊥)
when_below P n true h = λ v lt. subst P (get_or-range_with_len 0 n v 0 lt ∙ omega arith) (h v 0 (omega arith) (omega (arith, lt, length-range_with_len 0 n)))
when_below P n false x = λ h.
    let lt : x.0 < n = omega (arith, x.1, length-range_with_len 0 n) in
    x.2 0 (subst P (sym (get_or-range_with_len 0 n x.0 0 lt ∙ omega arith)) (h x.0 lt))
