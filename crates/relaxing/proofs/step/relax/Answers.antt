use Rattle.std.proofs.Common.{◌<◌, arith}
use Rattle.std.proofs.lemmas.Result.{MatchResult-from_err}
use Rattle.runs.specs.Parts.{told}
use Rattle.runs.specs.Sheet.{state}
use Rattle.runs.proofs.Steps.{relaxed_ready}
use Rattle.relaxing.proofs.Corridors.{lent_long, asked_curves, relaxes_at, fills_by}
use Rattle.runs.proofs.Granted.{granted}
use Rattle.relaxing.proofs.step.relax.Goals as goal

pub invariant_of-bounds : goal.invariant_of-bounds
invariant_of-bounds g c =
    let s = c.args.sheet.now in
    record {
      curves = asked_curves _ (g.N.Network.lawful s.net.now) s.heading.figures s.rows.now s.ready c.args.road (omega (arith, c.requires.road, s.ready.roads)) c.requires.labelled c.corridor_of.new.lo c.corridor_of.new.up
          (lent_long _ _ _ c.window.ensures.window_held s.ready.right.day c.corridor_of.auto.lo) (lent_long _ _ _ c.window.ensures.window_held s.ready.right.day c.corridor_of.auto.up) c.if-not-corridor_of.ensures.asks_or_is_within;
    }

pub returns-in_err-relabel-clause-relaxed_or_full : goal.returns-in_err-relabel-clause-relaxed_or_full
returns-in_err-relabel-clause-relaxed_or_full g c =
    let s = c.args.sheet.now in
    let full = c.in_err-relabel.ensures.relabelled_or_full in
    MatchResult-from_err _ _ _ c.from_residual.ensures.0
    (λ _. fills_by _ (g.N.Network.lawful s.net.now) s.heading.figures s.rows.now s.ready c.args.road (omega (arith, c.requires.road, s.ready.roads)) c.requires.labelled c.corridor_of.new.lo c.corridor_of.new.up
    (lent_long _ _ _ c.window.ensures.window_held s.ready.right.day c.corridor_of.auto.lo) (lent_long _ _ _ c.window.ensures.window_held s.ready.right.day c.corridor_of.auto.up) c.if-not-corridor_of.ensures.asks_or_is_within
    s.marks.now s.list.now c.relabel.new.rows full.0 full.1)

pub invariant_of-sheet-2 : goal.invariant_of-sheet-2
invariant_of-sheet-2 g c =
    let s = c.args.sheet.now in
    let laws = g.N.Network.lawful s.net.now in
    let road : c.args.road < (g.N.Network.means s.net.now).roads = omega (arith, c.requires.road, s.ready.roads) in
    let put = (granted _ c.put.result c.put.ensures.puts_or_refuses (λ e no. omega (arith, no.fault, c.head-head.ensures.head_is, laws.heads c.args.road road, s.ready.nodes, s.bound))).1 in
    record {
      ready = relaxed_ready g.L.WorkList.work _ laws (told s) (state s.heading.figures c.relabel.new.rows s.marks.now c.put.new.self) c.args.road s.ready road c.requires.labelled
          (relaxes_at _ laws s.heading.figures s.rows.now s.ready c.args.road road c.requires.labelled c.corridor_of.new.lo c.corridor_of.new.up
          (lent_long _ _ _ c.window.ensures.window_held s.ready.right.day c.corridor_of.auto.lo) (lent_long _ _ _ c.window.ensures.window_held s.ready.right.day c.corridor_of.auto.up) c.if-not-corridor_of.ensures.asks_or_is_within
          g.L.WorkList.work s.marks.now s.list.now c.put.new.self c.relabel.new.rows c.head-head.result c.head-head.ensures.head_is c.in_ok-relabel.ensures.relabelled_or_full put);
      bound = omega (arith, g.met.L.WorkList.putting _ _ _ _ put, s.bound);
    }

pub returns-clause-relaxed_or_full : goal.returns-clause-relaxed_or_full
returns-clause-relaxed_or_full g c =
    let s = c.args.sheet.now in
    let laws = g.N.Network.lawful s.net.now in
    let road : c.args.road < (g.N.Network.means s.net.now).roads = omega (arith, c.requires.road, s.ready.roads) in
    let put = (granted _ c.put.result c.put.ensures.puts_or_refuses (λ e no. omega (arith, no.fault, c.head-head.ensures.head_is, laws.heads c.args.road road, s.ready.nodes, s.bound))).1 in
    relaxes_at (g.N.Network.means s.net.now) laws s.heading.figures s.rows.now s.ready c.args.road road c.requires.labelled c.corridor_of.new.lo c.corridor_of.new.up
    (lent_long _ _ _ c.window.ensures.window_held s.ready.right.day c.corridor_of.auto.lo) (lent_long _ _ _ c.window.ensures.window_held s.ready.right.day c.corridor_of.auto.up) c.if-not-corridor_of.ensures.asks_or_is_within
    g.L.WorkList.work s.marks.now s.list.now c.put.new.self c.relabel.new.rows c.head-head.result c.head-head.ensures.head_is c.in_ok-relabel.ensures.relabelled_or_full put
