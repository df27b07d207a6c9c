-- What a reply tells.
use Rattle.std.proofs.Common.{◌≡◌, ℕ, Bool, true, false, cond, Some, None, refl, arith}

pub some_is : (b : Bool) (x a : ℕ) → cond b (Some x) None ≡ Some a → (b ≡ true) × (x ≡ a)
some_is true x a e = (refl, cc)
some_is false x a e = let z : ◌≡◌ {A = ℕ} 0 1 = cc in absurd (omega arith)
