-- When a sheet is printed, and what is printed of it.
use Rattle.std.specs.Prelude.{◌≡◌, ℕ, ◌<◌, ◌≤◌, List, length, Some, None, Option}
use Rattle.layout.specs.Layout.{layout}
use Rattle.layout.specs.Sheets.{rows}
use Rattle.network.specs.Net.{Net}
use Rattle.refusal.specs.declared.Refusal.{Refusal}
use Rattle.refusal.specs.declared.Refusal.TheVariants.{Short, NoOrigin, Unsettled}
use Rattle.rows.specs.Rows.{width}
use Rattle.runs.specs.declared.Figures.{Figures}
use Rattle.sheet.specs.Judging.{Fit, Judged}
use Rattle.worklist.specs.Work.{Work, Idle}

-- the book of a sheet
abbrev pub book_of : Figures → List ℕ → List ℕ
book_of f cells = layout (rows cells (width f.places) f.nodes)

-- a sheet is printed if it has an origin, is settled, and its book has room, judged in this order
pub data Printable {L : Type 0} (w : Work L) (f : Figures) (list : L) (text buffer : List ℕ) : Option Refusal → Type 0 where
  unstarted : f.origin ≡ None → Printable w f list text buffer (Some NoOrigin)
  unsettled : (o : ℕ) → f.origin ≡ Some o → (Idle w list → ⊥) → Printable w f list text buffer (Some (Unsettled None))
  cramped : (o : ℕ) → f.origin ≡ Some o → Idle w list → length buffer < length text → Printable w f list text buffer (Some Short)
  printable : (o : ℕ) → f.origin ≡ Some o → Idle w list → length text ≤ length buffer → Printable w f list text buffer None

-- the parts of the sheet are judged before that
pub data Answered {L : Type 0} (w : Work L) (net : Net) (f : Figures) (cells marks : List ℕ) (limit : ℕ) (list : L) (buffer : List ℕ) : Option Refusal → Type 0 where
  unfit : (why : Refusal) → Judged net f cells marks limit (Some why) → Answered w net f cells marks limit list buffer (Some why)
  fit : (why : Option Refusal) → Fit net f cells marks limit → Printable w f list (book_of f cells) buffer why → Answered w net f cells marks limit list buffer why
