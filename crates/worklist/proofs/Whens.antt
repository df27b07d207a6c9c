-- A test told by its two ways.
use Rattle.std.proofs.Common.{◌≡◌, Bool, true, false, MatchBool, refl}

pub when_from : (b : Bool) (P Q : Type 0) → (b ≡ true → P) → (b ≡ false → Q) → MatchBool b P Q
when_from true P Q yes' no' = yes' refl
when_from false P Q yes' no' = no' refl
