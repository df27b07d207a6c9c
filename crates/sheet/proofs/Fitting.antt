-- Sheets that were ruled or began anew fit.
use Rattle.std.proofs.Common.{◌≡◌, ℕ, ◌*◌, ◌<◌, ◌≤◌, Bool, true, cond, List, length, get_or, Some, None, sym, refl, ap, ◌∙◌, subst, arith}
use Rattle.rows.specs.Rows.{width}
use Rattle.worklist.specs.Work.{Work}
use Rattle.network.specs.Net.{Net}
use Rattle.refusal.specs.declared.Refusal.{Refusal}
use Rattle.refusal.specs.Refusals.{or_else}
use Rattle.runs.specs.declared.Figures.{Figures}
use Rattle.runs.specs.Figured.{Right}
use Rattle.runs.specs.Sheet.{State, state}
use Rattle.sheet.specs.Judging.{Roomy, Agree, Fit}
use Rattle.runs.specs.Figured.{with_origin}
use Rattle.sheet.specs.Restarts.{Restarted}
use Rattle.sheet.specs.Rules.{Ruled, blank_rows, blank_marks}
use Rattle.sheet.proofs.Restarting.{cleared_size, cleared_formed, anew_formed}

-- neither of two faults
pub no_fault : (b c : Bool) (x y : Refusal) → b ≡ true → c ≡ true → None ≡ or_else (cond b None (Some x)) (cond c None (Some y))
no_fault b c x y p q = sym (ap (λ (t : Bool). or_else (cond t None (Some x)) (cond c None (Some y))) p ∙ ap (λ (t : Bool). cond t None (Some y)) q)

-- what is ruled fits
pub ruled_fits : {L : Type 0} (w : Work L) (net : Net) (f : Figures) (rows marks : List ℕ) (l : L) (s : State L) (limit : ℕ) → f.origin ≡ None → Roomy f rows marks → Agree net f limit → Ruled w f rows marks l s
    → Fit net s.heading s.rows s.marks limit
ruled_fits w net f rows marks l s limit none room agree r =
    let rs = blank_rows f rows in
    let ms = blank_marks f marks in
    let base : Fit net f rs ms limit = record {
      roomy = record {
        rows = omega (arith, room.rows, cleared_size (f.nodes * width f.places) rows room.rows);
        marks = omega (arith, room.marks, cleared_size f.roads marks room.marks);
      };
      agree = agree;
      formed = cleared_formed f rows marks none;
    } in
    subst (λ (x : List ℕ). Fit net s.heading s.rows x limit) (sym r.marks)
    (subst (λ (x : List ℕ). Fit net s.heading x ms limit) (sym r.rows) (subst (λ (x : Figures). Fit net x rs ms limit) (sym r.heading) base))

-- figures stay right with another origin
with_origin_right : (f : Figures) (v : ℕ) → Right f → v < f.nodes → Right (with_origin f v)
with_origin_right f v ok lt = record {
  some = ok.some;
  few = ok.few;
  paved = ok.paved;
  window = ok.window;
  day = ok.day;
  places = ok.places;
  most = ok.most;
  allowance = ok.allowance;
  inside = λ o e. let same : v ≡ o = cc e in omega (arith, same, lt);
}

-- a sheet that began anew with v fits, whatever its marks are
pub restarted_fits : {L : Type 0} (w : Work L) (net : Net) (f : Figures) (rows ms : List ℕ) (l : L) (v limit : ℕ) (s : State L) → Right f → v < f.nodes → f.nodes * width f.places ≤ length rows → Agree net f limit
    → s.heading ≡ with_origin f v → f.roads ≤ length s.marks → ((r : ℕ) → r < f.roads → get_or s.marks r 0 ≤ 1) → Restarted w (state f rows ms l) v s → Fit net s.heading s.rows s.marks limit
restarted_fits w net f rows ms l v limit s ok lt room agree same long marked r =
    subst (λ (x : Figures). Fit net x s.rows s.marks limit) (sym same) (record {
      roomy = record { rows = omega (arith, r.size, room); marks = long };
      agree = record { nodes = agree.nodes; roads = agree.roads; bound = agree.bound };
      formed = anew_formed (with_origin f v) s.rows s.marks v (with_origin_right f v ok lt) refl r.own r.others marked;
    })
