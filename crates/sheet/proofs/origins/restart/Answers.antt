use Rattle.std.proofs.Common.{ℕ, ap, subst, arith}
use Rattle.runs.specs.declared.Figures.{Figures}
use Rattle.runs.specs.Figured.{right_tells}
use Rattle.runs.proofs.Granted.{granted}
use Rattle.sheet.proofs.Restarting.{restarts}
use Rattle.sheet.proofs.origins.restart.Goals as goal

pub returns : goal.returns
returns g c =
    let w = g.L.WorkList.work in
    let h = c.args.heading.now in
    let many = ap (λ (f : Figures). f.nodes) c.figures.ensures.figures_held in
    let right = right_tells h.figures h.lawful in
    let clears = (granted _ c.clear-cleared.result c.clear-cleared.ensures.clears_or_refuses (λ e x. omega (arith, x.fault (omega (arith, right.some, many)), right.few, many))).2 in
    let put = (granted _ c.put-put.result c.put-put.ensures.puts_or_refuses (λ e x. omega (arith, x.fault, g.met.L.WorkList.clearing _ _ _ clears, many, c.requires.node_below))).1 in
    record {
      restarted = λ f ms ns. restarts w h.figures f c.args.rows.now c.begin_rows.new.rows ms ns c.args.list.now _ _ c.args.node c.requires.room c.begin_rows.ensures.origin_alone
          (subst (λ (n : ℕ). w.clears c.args.list.now n c.clear-cleared.new.self) many clears) put;
    }
