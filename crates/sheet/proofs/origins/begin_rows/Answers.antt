use Rattle.std.proofs.Common.{◌≡◌, ℕ, [], ◌∷◌, List, subst, rules}
use Rattle.curve.specs.declared.points.Point.{Point}
use Rattle.curve.specs.Curve.{no_point}
use Rattle.runs.specs.Ready.{Rewritten}
use Rattle.runs.specs.Sheet.{diagonal}
use Rattle.sheet.proofs.origins.begin_rows.Goals as goal

pub returns : goal.returns
returns c =
    let f = c.args.heading.figures in
    let new = c.write_label.new.rows in
    let written : c.default.result ∷ (record { departure = c.window-window.result; arrival = c.window-window.result } ∷ []) ≡ diagonal f.window = let zero : c.default.result ≡ no_point = search rules in cc (zero, c.window-window.ensures.window_held) in
    record {
      origin_alone = subst (λ (xs : List ℕ). Rewritten f xs c.args.node (diagonal f.window) new) c.clear_rows.ensures.rows_cleared
          (subst (λ (ps : List Point). Rewritten f c.clear_rows.new.rows c.args.node ps new) written c.write_label.ensures.own_row_alone);
    }
