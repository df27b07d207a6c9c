-- When work refuses.
use Rattle.std.specs.Prelude.{ℕ, Some, None, Option}
use Rattle.refusal.specs.declared.Refusal.{Refusal}
use Rattle.refusal.specs.declared.Refusal.TheVariants.{NoOrigin}

-- a sheet without an origin
abbrev pub unstarted : Option ℕ → Option Refusal
unstarted None = Some NoOrigin
unstarted (Some o) = None
