-- An answer by cases, weakened in each.
use Rattle.std.proofs.Common.{Bool, true, false, MatchBool}

pub when_map : {P P' Q Q' : Type 0} (b : Bool) → (P → P') → (Q → Q') → MatchBool b P Q → MatchBool b P' Q'
when_map true f g h = f h
when_map false f g h = g h
