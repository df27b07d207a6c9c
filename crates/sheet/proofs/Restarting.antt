-- Rows that were cleared, and those that begin anew.
use Rattle.std.proofs.Common.{◌≡◌, ℕ, ◌-◌, ◌*◌, ◌<◌, ◌≤◌, List, ◌++◌, length, get_or, take, drop, replicate, Some, None, sym, ap, ◌∙◌, subst, inl, inr, arith}
use Rattle.std.proofs.lemmas.List.{length-append, length-replicate, length-drop, drop-append-le, drop-replicate, take-append-le, take-replicate, drop_at, get_or_append_left, get_or-replicate}
use Rattle.std.proofs.lemmas.Bool.{cases_eq}
use Rattle.rows.specs.Rows.{width, laid_out}
use Rattle.worklist.specs.Work.{Work}
use Rattle.runs.specs.declared.Figures.{Figures}
use Rattle.runs.specs.Figured.{Right}
use Rattle.runs.specs.Sheet.{state, row, diagonal}
use Rattle.runs.specs.Formed.{Row, blank, holds, WellFormed, latest}
use Rattle.runs.specs.Ready.{Rewritten}
use Rattle.runs.proofs.Reading.{diagonal_label}
use Rattle.runs.proofs.Rows.{room_for}
use Rattle.sheet.specs.Restarts.{Restarted}
use Rattle.sheet.specs.Rules.{blank_rows, blank_marks}

-- k zeros, then what was there
abbrev cleared : ℕ → List ℕ → List ℕ
cleared k xs = replicate k 0 ++ drop k xs

pub cleared_at : (k : ℕ) (xs : List ℕ) (i : ℕ) → i < k → get_or (cleared k xs) i 0 ≡ 0
cleared_at k xs i lt = get_or_append_left (replicate k 0) (drop k xs) 0 i (simp length-replicate lt) ∙ get_or-replicate k i 0 0 lt

pub cleared_size : (k : ℕ) (xs : List ℕ) → k ≤ length xs → length (cleared k xs) ≡ length xs
cleared_size k xs le = simp (length-append, length-replicate, length-drop) (omega arith)

pub cleared_row : (P n : ℕ) (rows : List ℕ) (x : ℕ) → x < n → row P (cleared (n * width P) rows) x ≡ replicate (width P) 0
unfolding row
cleared_row P n rows x lt =
    let fit = room_for P n x (n * width P) (omega arith) lt in
    let i = n * width P - x * width P in
    let rest = drop (n * width P) rows in
    let from : drop (x * width P) (cleared (n * width P) rows) ≡ replicate i 0 ++ rest = drop-append-le (x * width P) (replicate (n * width P) 0) rest (simp length-replicate (omega arith)) ∙ ap (λ (l : List ℕ). l ++ rest) (drop-replicate (x * width P) (n * width P) 0) in
    ap (take (width P)) from ∙ take-append-le (width P) (replicate i 0) rest (simp length-replicate (omega arith)) ∙ take-replicate (width P) i 0 (omega arith)

-- the origin's row, written into rows that were cleared
pub restarts : {L : Type 0} (w : Work L) (f g : Figures) (rows rows' ms ns : List ℕ) (l l₁ l₂ : L) (v : ℕ) → f.nodes * width f.places ≤ length rows
    → Rewritten f (blank_rows f rows) v (diagonal f.window) rows' → w.clears l f.nodes l₁ → w.puts l₁ v 0 l₂
    → Restarted w (state f rows ms l) v (state g rows' ns l₂)
restarts w f g rows rows' ms ns l l₁ l₂ v room new clears put =
    let P = f.places in
    let k = f.nodes * width P in
    record {
      own = new.own;
      others = λ x lt ne. new.others x ne ∙ cleared_row P f.nodes rows x lt;
      past = new.past ∙ drop_at (replicate k 0) (drop k rows) k (length-replicate k 0);
      size = new.size ∙ cleared_size k rows room;
      cleared = l₁;
      clears = clears;
      put = put;
    }

-- a sheet that began anew is well formed
pub anew_formed : (f : Figures) (rows marks : List ℕ) (v : ℕ) → Right f → f.origin ≡ Some v → row f.places rows v ≡ laid_out f.places (diagonal f.window)
    → ((x : ℕ) → x < f.nodes → (x ≡ v → ⊥) → row f.places rows x ≡ replicate (width f.places) 0) → ((r : ℕ) → r < f.roads → get_or marks r 0 ≤ 1) → WellFormed f rows marks
anew_formed f rows marks v ok is own others marked = record {
  marked = marked;
  holding = λ x lt. elim (cases_eq x v) [
    | inl e ↦ subst (λ (y : ℕ). Row f.places f.window (latest f rows) (row f.places rows y)) (sym e) (holds (diagonal f.window) own ok.places (diagonal_label f.window (latest f rows) ok.window (omega arith)))
    | inr ne ↦ blank (others x lt ne)
  ];
  origin_row = λ o e. let same : o ≡ v = cc (is, e) in subst (λ (y : ℕ). row f.places rows y ≡ laid_out f.places (diagonal f.window)) (sym same) own;
  bare = λ e v lt. let z : ◌≡◌ {A = ℕ} 0 1 = cc (is, e) in absurd (omega arith);
}

-- and so is one that was cleared
pub cleared_formed : (f : Figures) (rows marks : List ℕ) → f.origin ≡ None → WellFormed f (blank_rows f rows) (blank_marks f marks)
cleared_formed f rows marks is = record {
  marked = λ r lt. omega (arith, cleared_at f.roads marks r lt);
  holding = λ v lt. blank (cleared_row f.places f.nodes rows v lt);
  origin_row = λ o e. let z : ◌≡◌ {A = ℕ} 0 1 = cc (is, e) in absurd (omega arith);
  bare = λ e v lt. cleared_row f.places f.nodes rows v lt;
}
