-- Each refusal by its number and its places.
use Rattle.std.specs.Prelude.{ℕ, Some, None, Ok, Err, Option, Result}
use Rattle.refusal.specs.declared.Refusal.{Refusal}
use Rattle.refusal.specs.declared.Refusal.TheVariants.{Figures, Table, Text, Quota, Short, Disagree, NoOrigin, Range, Already, Unsettled}
use Rattle.refusal.specs.declared.Line.{Line}
use Rattle.refusal.specs.declared.Places.{Places}

abbrev pub number : Refusal → ℕ
number Figures = 1
number (Table road) = 2
number (Text at) = 3
number (Quota at) = 4
number Short = 5
number Disagree = 6
number NoOrigin = 7
number Range = 8
number Already = 9
number (Unsettled road) = 10

abbrev at_line : Line → Places
at_line at = record { file = at.file; line = at.line; road = None }

abbrev at_road : Option ℕ → Places
at_road road = record { file = 0; line = 0; road = road }

abbrev pub places : Refusal → Places
places Figures = at_road None
places (Table road) = at_road road
places (Text at) = at_line at
places (Quota at) = at_line at
places Short = at_road None
places Disagree = at_road None
places NoOrigin = at_road None
places Range = at_road None
places Already = at_road None
places (Unsettled road) = at_road road

-- the refusal in an answer, if it is one
abbrev pub refusal : {A : Type 0} → Result A Refusal → Option Refusal
refusal (Ok x) = None
refusal (Err e) = Some e

-- the first of two faults
abbrev pub or_else : Option Refusal → Option Refusal → Option Refusal
or_else (Some e) f = Some e
or_else None f = f
