-- What the program answers for an input.
use Rattle.std.specs.Prelude.{◌≡◌, ℕ, ◌+◌, List, [], ◌∷◌, ◌++◌, Some, None, Ok, Err, codes, decimal, Option, Result, string_bytes}
use Rattle.refusal.specs.declared.Refusal.{Refusal}
use Rattle.refusal.specs.Refusals.{number, places}
use Rattle.refusal.specs.declared.Refusal.TheVariants.{Quota, Unsettled}
use Rattle.runs.specs.declared.Outcome.{Outcome}
use Rattle.runs.specs.declared.Outcome.TheVariants.{Settled, Full, More}
use Rattle.booking.specs.declared.failure.Failure.{Failure}
use Rattle.booking.specs.declared.failure.Failure.TheVariants.{Refused, NoMemory}
use Rattle.booking.specs.declared.page.Page.{Page}
use Rattle.booking.specs.declared.page.Page.TheVariants.{Book, Refused as RefusedPage}

-- an input that is too long: a quota, with no place
abbrev pub too_long : {A : Type 0} → Result A Failure
too_long = Err (Refused (Quota (record { file = 0; line = 0 })))

-- a road counts from 1 in the line, and 0 is none
abbrev pub counted : Option ℕ → ℕ
counted None = 0
counted (Some r) = r + 1

-- refused,NUMBER,FILE,LINE,ROAD and the end of the line
abbrev pub refused_text : ℕ → ℕ → ℕ → ℕ → List ℕ
refused_text number file line road =
    codes "refused," ++ (decimal number ++ (codes "," ++ (decimal file ++ (codes "," ++ (decimal line ++ (codes "," ++ (decimal road ++ (13 ∷ 10 ∷ []))))))))

abbrev pub refused_line : Refusal → List ℕ
refused_line e = refused_text (number e) (places e).file (places e).line (counted (places e).road)

-- why a sheet that work has left so is not printed
abbrev pub unsettled : Outcome → Option Refusal
unsettled Settled = None
unsettled (Full road) = Some (Unsettled (Some road))
unsettled More = Some (Unsettled None)

-- the bytes of a page
abbrev pub page_bytes : Page → List ℕ
page_bytes (Book text) = text.items
page_bytes (RefusedPage line) = string_bytes line

-- a page that is no book is the line of a refusal
abbrev pub BookOrRefusalLine : Page → Type 0
BookOrRefusalLine (Book text) = Unit {0}
BookOrRefusalLine (RefusedPage line) = (e : Refusal) × (string_bytes line ≡ refused_line e)

-- no book is made: for that reason, or for want of memory
abbrev pub NoBook : {A : Type 0} → Result A Failure → Refusal → Type 0
NoBook (Ok x) e = ⊥
NoBook (Err (Refused why)) e = why ≡ e
NoBook (Err NoMemory) e = Unit {0}
