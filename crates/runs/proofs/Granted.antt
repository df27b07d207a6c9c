-- Calls that cannot be refused.
use Rattle.std.proofs.Common.{Ok, Err, Result, MatchResult}

-- such a call did what it was asked for
pub granted : {A E P : Type 0} (Q : E → Type 0) (a : Result A E) → MatchResult a (λ _. P) Q → ((e : E) → Q e → ⊥) → P
granted Q (Ok x) p never = p
granted Q (Err e) q never = absurd (never e q)
