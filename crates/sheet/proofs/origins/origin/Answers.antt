use Rattle.std.proofs.Common.{◌<◌, refl, ap, ◌∙◌, arith}
use Rattle.std.proofs.lemmas.Bool.{cond_below}
use Rattle.runs.specs.Figured.{right_tells}
use Rattle.runs.specs.Sheet.{state}
use Rattle.sheet.proofs.Judgements.{fit, judged_last}
use Rattle.runs.specs.declared.Figures.{Figures}
use Rattle.sheet.proofs.Evening.{restarted_even}
use Rattle.sheet.proofs.Fitting.{restarted_fits}
use Rattle.sheet.proofs.origins.origin.Goals as goal

pub restart-requires : goal.restart-requires
restart-requires g c =
    let parts = fit c.in_ok-judge.ensures.judged in
    record { room = parts.roomy.rows; node_below = omega (arith, c.if-node-nodes.false, c.nodes.ensures.nodes_held) }

pub returns : goal.returns
returns g c =
    let judged = c.in_ok-judge.ensures.judged in
    let parts = fit judged in
    let f = c.args.heading.now.figures in
    let v = c.args.node in
    let node : v < f.nodes = omega (arith, c.if-node-nodes.false, c.nodes.ensures.nodes_held) in
    let set = c.set_origin.ensures.origin_set in
    let anew = c.restart.ensures.restarted c.set_origin.new.self.figures c.args.marks.now c.args.marks.now in
    let bound = g.met.L.WorkList.putting _ _ _ _ anew.put ∙ g.met.L.WorkList.clearing _ _ _ anew.clears in
    record {
      refused_as_listed = judged_last _ _ judged (cond_below v f.nodes _ _ node);
      originated = record { node = node; heading = set; marks = refl; restarted = anew };
      fits = restarted_fits _ _ f c.args.rows.now c.args.marks.now c.args.list.now v _ (state c.set_origin.new.self.figures c.restart.new.rows c.args.marks.now c.restart.new.list)
          (right_tells f c.args.heading.now.lawful) node parts.roomy.rows (record { nodes = parts.agree.nodes; roads = parts.agree.roads; bound = bound }) set parts.roomy.marks parts.formed.marked anew;
      begins_even = restarted_even g.L.WorkList.work g.met.L.WorkList.orderly _ (g.N.Network.lawful c.args.net.now) _ v (state c.set_origin.new.self.figures c.restart.new.rows c.args.marks.now c.restart.new.list) parts.agree.nodes (ap (λ (q : Figures). q.places) set) anew;
      refused_keeps_all = tt;
    }
