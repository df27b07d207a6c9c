-- What a judgement tells.
use Rattle.std.proofs.Common.{◌≡◌, ℕ, List, Some, None, Option, refl}
use Rattle.refusal.specs.declared.Refusal.{Refusal}
use Rattle.network.specs.Net.{Net}
use Rattle.runs.specs.declared.Figures.{Figures}
use Rattle.sheet.specs.Judging.{Fit, Judged, fits, JudgedThen}

-- parts that are not refused fit
pub fit : {net : Net} {f : Figures} {rows marks : List ℕ} {limit : ℕ} → Judged net f rows marks limit None → Fit net f rows marks limit
fit (fits h) = h

-- a call refused by the judgement, and one that passes it
pub judged_first : {net : Net} {f : Figures} {rows marks : List ℕ} {limit : ℕ} (other : Option Refusal) (e : Refusal) → Judged net f rows marks limit (Some e) → JudgedThen net f rows marks limit other (Some e)
judged_first other e j = record { first = Some e; judged = j; answers = refl }

pub judged_last : {net : Net} {f : Figures} {rows marks : List ℕ} {limit : ℕ} (other answer : Option Refusal) → Judged net f rows marks limit None → answer ≡ other → JudgedThen net f rows marks limit other answer
judged_last other answer j e = record { first = None; judged = j; answers = e }
