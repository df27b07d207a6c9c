use Rattle.std.proofs.Common.{◌≡◌, ℕ, Bool, true, false, List, MatchBool, sym, ap₂, arith}
use Rattle.std.proofs.lemmas.Bool.{MatchBool-at_true, MatchBool-at_false}
use Rattle.std.proofs.lemmas.Iterator.{cases_from_all, YieldsList-from_range}
use Rattle.runs.specs.Formed.{Row}
use Rattle.runs.specs.Sheet.{row}
use Rattle.forming.proofs.Whens.{when_below}
use Rattle.forming.proofs.sheets.are_rows.Goals as goal

-- what one call says of a row
row_so : {P H limit : ℕ} {xs : List ℕ} {b : Bool} → MatchBool b (Row P H limit xs) (Row P H limit xs → ⊥) → true ≡ b → Row P H limit xs
row_so m e = MatchBool-at_true _ _ (sym e) m

row_not : {P H limit : ℕ} {xs : List ℕ} {b : Bool} → MatchBool b (Row P H limit xs) (Row P H limit xs → ⊥) → false ≡ b → Row P H limit xs → ⊥
row_not m e = MatchBool-at_false _ _ (sym e) m

-- and that what is captured stays as it is
pair_same : {A B : Type 0} {a : A} {b : B} {q : A × B} → q.0 ≡ a → q.1 ≡ b → q ≡ (a, b)
pair_same d e = ap₂ (λ x y. (x, y)) d e

pub returns : goal.returns
returns c =
    let f = c.args.labels.now.heading.figures in
    let P : ℕ → Type 0 = λ v. Row f.places f.window c.args.limit (row f.places c.args.labels.now.rows.now v) in
    record {
      rows_or_not = when_below P f.nodes _ (cases_from_all _ _ _ P (λ v. P v → ⊥) c.all.ensures.ran
          (YieldsList-from_range 0 f.nodes f.nodes (cc) (omega arith)) (λ x q k. search (row_so, pair_same)) (λ x q k. search row_not));
    }
