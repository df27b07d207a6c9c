-- Where a text is refused.
use Rattle.std.specs.Prelude.{◌≡◌, ℕ, ◌+◌, ◌≤◌, max, cond, List, [], ◌∷◌, length, take, Err, ◌==◌, slice_index}
use Rattle.graph_file.specs.Files.{files_in}
use Rattle.graph_file.specs.declared.machine.Limits.{Limits}
use Rattle.numeral.specs.Texts.{lines}
use Rattle.refusal.specs.Refusals.{places}
use Rattle.refusal.specs.declared.Refusal.{Refusal}

-- how many lines begin with p, 112
abbrev pub begun_in : List (List ℕ) → ℕ
begun_in [] = 0
begun_in (l ∷ ls) = cond (slice_index l 0 == 112) 1 0 + begun_in ls

-- a refused line is one of the text or the one after the last
pub record Placed (text : List ℕ) (file line : ℕ) : Type 0 where
  pub counts : 1 ≤ line
  pub near : line ≤ length (lines text) + 1
  pub file_is : file ≡ max 1 (begun_in (take line (lines text)))

-- its file is the number of lines beginning with p up to it, at least 1
abbrev pub NamesLine : Type 0
NamesLine = (lim : Limits) (text : List ℕ) (e : Refusal) → files_in lim text ≡ Err e → Placed text (places e).file (places e).line

-- the lines up to the fault decide: a text that has the same is refused the same
abbrev pub FrontDecides : Type 0
FrontDecides =
    (lim : Limits) (text other : List ℕ) (e : Refusal) → files_in lim text ≡ Err e → (places e).line ≤ length (lines text) → take (places e).line (lines other) ≡ take (places e).line (lines text) → files_in lim other ≡ Err e
