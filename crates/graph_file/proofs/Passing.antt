-- What a step says of the tests before it.
use Rattle.std.proofs.Common.{◌≡◌, Bool, true, false, cond, Ok, Err, Result, refl}

-- a refusal is no answer
pub never : {A E X : Type 0} (e : E) (x : A) → ◌≡◌ {A = Result A E} (Err e) (Ok x) → X
never e x h = absurd (cc)

-- one test
pub passed : {S E : Type 0} (b : Bool) (s t : S) (w : E) → cond b (Ok s) (Err w) ≡ Ok t → (b ≡ true) × (s ≡ t)
passed true s t w e = (refl, (cc))
passed false s t w e = never w t e

-- two tests, the first for the text
pub passed_twice : {S E : Type 0} (b d : Bool) (s t : S) (v w : E) → cond b (cond d (Ok s) (Err v)) (Err w) ≡ Ok t → (b ≡ true) × (d ≡ true) × (s ≡ t)
passed_twice true d s t v w e = let p = passed d s t v e in (refl, p.0, p.1)
passed_twice false d s t v w e = never w t e

-- a test that must fail, and one that must not
pub passed_after : {S E : Type 0} (b d : Bool) (s t : S) (v w : E) → cond b (Err w) (cond d (Ok s) (Err v)) ≡ Ok t → (b ≡ false) × (d ≡ true) × (s ≡ t)
passed_after true d s t v w e = never w t e
passed_after false d s t v w e = let p = passed d s t v e in (refl, p.0, p.1)
