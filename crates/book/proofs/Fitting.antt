-- A well-formed sheet can be laid out.
use Rattle.std.proofs.Common.{◌≡◌, ℕ, ◌≤◌, Bool, true, false, cond, List, length, get_or, is_some, Some, None, Option, sym, refl, ap, subst, arith}
use Rattle.layout.specs.Sheets.{SheetFits}
use Rattle.network.specs.Net.{Net}
use Rattle.rows.specs.Rows.{width, points, laid_back}
use Rattle.runs.specs.declared.Figures.{Figures}
use Rattle.runs.specs.Figured.{Right}
use Rattle.runs.specs.Formed.{Row, blank, holds, latest}
use Rattle.runs.specs.Sheet.{row}
use Rattle.runs.specs.Once.{blank_points}
use Rattle.runs.proofs.Rows.{count_points, row_length}
use Rattle.sheet.specs.Judging.{Fit}

-- a row's count is at most its places
count_few : (P H limit : ℕ) (xs : List ℕ) → Row P H limit xs → get_or xs 0 0 ≤ P
count_few P H limit xs (blank e) = omega (arith, sym (count_points xs), ap (λ (ys : List ℕ). length (points ys)) e, ap length (blank_points P))
count_few P H limit xs (holds ps e few lab) = omega (arith, sym (count_points xs), ap (λ (ys : List ℕ). length (points ys)) e, ap length (laid_back P ps), few)

pub sheet_fits : (net : Net) (f : Figures) (cells marks : List ℕ) (limit w n : ℕ) → Right f → Fit net f cells marks limit → w ≡ width f.places → n ≡ f.nodes → SheetFits cells w n
unfolding row
sheet_fits net f cells marks limit w n ok fit wide many =
    subst (λ (x : ℕ). SheetFits cells x n) (sym wide) (subst (λ (x : ℕ). SheetFits cells (width f.places) x) (sym many) (record {
      few = ok.few;
      inside = fit.roomy.rows;
      rows_fit = λ v lt.
          let count = count_few f.places f.window (latest f cells) (row f.places cells v) (fit.formed.holding v lt) in
          let long = row_length f.places f.nodes v cells fit.roomy.rows lt in
          record { few = omega (arith, count, ok.most, ok.day); inside = omega (arith, count, long) };
    }))

-- there is an origin, or there is none
pub some_origin : (a : Option ℕ) → is_some a ≡ true → (o : ℕ) × (a ≡ Some o)
some_origin (Some o) e = (o, refl)
some_origin None e = let z : ◌≡◌ {A = ℕ} 0 1 = ap (λ (b : Bool). cond b 1 0) e in absurd (omega arith)

pub no_origin : (a : Option ℕ) → is_some a ≡ false → a ≡ None
no_origin None e = refl
no_origin (Some o) e = let z : ◌≡◌ {A = ℕ} 0 1 = ap (λ (b : Bool). cond b 0 1) e in absurd (omega arith)
