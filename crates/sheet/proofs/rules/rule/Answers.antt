use Rattle.std.proofs.Common.{◌≡◌, ℕ, ◌*◌, None, sym, refl, ap, ◌∙◌, subst, arith}
use Rattle.std.proofs.lemmas.Bool.{and_from, le-leb}
use Rattle.rows.specs.Rows.{width}
use Rattle.runs.specs.declared.Figures.{Figures}
use Rattle.runs.specs.Sheet.{state}
use Rattle.sheet.specs.Judging.{Roomy}
use Rattle.sheet.specs.Rules.{Ruled, blank_marks, blank_rows, plain}
use Rattle.runs.proofs.Granted.{granted}
use Rattle.sheet.proofs.Fitting.{no_fault, ruled_fits}
use Rattle.sheet.proofs.rules.rule.Goals as goal

pub returns : goal.returns
returns g c =
    let net = g.N.Network.means c.args.net.now in
    let f = plain net c.args.window c.args.places c.args.allowance in
    let rows = c.args.rows.now in
    let marks = c.args.marks.now in
    let s = state c.new-heading.result.figures c.clear_rows.new.rows c.clear_marks.new.marks c.clear-cleared.new.self in
    let named : ℕ → ℕ → Figures = λ n m. record { nodes = n; roads = m; window = c.args.window; places = c.args.places; allowance = c.args.allowance; origin = None } in
    let same : named c.nodes.result c.roads.result ≡ f = ap (λ (n : ℕ). named n c.roads.result) c.nodes.ensures.nodes_as_meant ∙ ap (named net.nodes) c.roads.ensures.roads_as_meant in
    let held = c.new-heading.ensures.figures_as_given ∙ same in
    let many = ap (λ (q : Figures). q.nodes) (c.figures-2.ensures.figures_held ∙ held) in
    let cleared = granted _ c.clear-cleared.result c.clear-cleared.ensures.clears_or_refuses
    (λ e x. let few = (g.N.Network.lawful c.args.net.now).few in let some = (g.N.Network.lawful c.args.net.now).some in omega (arith, x.fault (omega (arith, many, some)), many, few)) in
    let is : Ruled g.L.WorkList.work f rows marks c.args.list.now s = record {
      heading = held;
      rows = c.clear_rows.ensures.rows_cleared ∙ ap (λ (q : Figures). blank_rows q rows) held;
      marks = c.clear_marks.ensures.marks_cleared ∙ ap (λ (q : Figures). blank_marks q marks) held;
      clears = subst (λ (n : ℕ). g.L.WorkList.work.clears c.args.list.now n s.list) many cleared.2;
    } in
    let room : Roomy f rows marks = record {
      rows = omega (arith, c.if-rows-size_of_rows.false, c.size_of_rows.ensures.rows_measured, ap (λ (q : Figures). q.nodes * width q.places) held);
      marks = omega (arith, c.if-marks-figures.false, ap (λ (q : Figures). q.roads) (c.figures.ensures.figures_held ∙ held));
    } in
    record {
      refused_as_listed = no_fault _ _ _ _ (sym c.if-not-is_ruled.ensures.ruled_or_not) (and_from _ _ (le-leb _ _ room.rows) (le-leb _ _ room.marks));
      ruled = is;
      fits = ruled_fits _ net f rows marks _ _ _ refl room (record { nodes = refl; roads = refl; bound = g.met.L.WorkList.clearing _ _ _ is.clears }) is;
      refused_keeps_all = tt;
    }
