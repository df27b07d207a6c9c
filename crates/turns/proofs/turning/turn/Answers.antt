use Rattle.std.proofs.Common.{◌<◌, sym, ap, ◌∙◌, subst, arith}
use Rattle.runs.specs.declared.heading.Heading.{Heading}
use Rattle.runs.specs.Parts.{told}
use Rattle.runs.specs.Turns.{begins}
use Rattle.runs.proofs.Parts.{parts_same}
use Rattle.runs.proofs.Reading.{labelled_as, read_as}
use Rattle.runs.proofs.Granted.{granted}
use Rattle.turns.specs.Passing.{Blocked}
use Rattle.turns.proofs.Passing.{idle_turn, whole_turn, stopped_turn}
use Rattle.turns.proofs.turning.turn.Goals as goal

pub returns-then-not-has-clause-went : goal.returns-then-not-has-clause-went
returns-then-not-has-clause-went g c =
    idle_turn g.L.WorkList.work _ (told c.args.sheet.now) c.take.new.self c.in-Some.node c.in-Some.ensures.takes
    (sym (labelled_as _ _ _ _ c.in-Some.node c.labels.ensures.same_heading c.labels.ensures.same_rows) ∙ sym c.has.ensures.whether_labelled ∙ c.if-not-has.true)

pub loop-road-init : goal.loop-road-init
loop-road-init g c = (
  begins,
  parts_same _,
  sym (labelled_as _ _ _ _ c.in-Some.node c.labels.ensures.same_heading c.labels.ensures.same_rows) ∙ sym c.has.ensures.whether_labelled ∙ c.if-not-has.false,
)

pub invariant_of-sheet-in-Err : goal.invariant_of-sheet-in-Err
invariant_of-sheet-in-Err g c =
    let s = c.args.sheet.now in
    let t = c.pass.new.sheet in
    let nodes = ap (λ (h : Heading). h.figures.nodes) (c.in-Err.ensures.same_parts.heading ∙ c.loop-road.invariant.1.heading) in
    let node : c.in-Some.node < g.L.WorkList.bound t.list.now = omega (arith, g.met.L.WorkList.inside _ _ (g.met.L.WorkList.orderly.take_waits _ _ _ c.in-Some.ensures.takes), s.bound, t.bound, nodes) in
    let put = (granted _ c.put.result c.put.ensures.puts_or_refuses (λ e q. omega (arith, q.fault, node))).1 in
    record { ready = t.ready; bound = g.met.L.WorkList.putting _ _ _ _ put ∙ t.bound }

pub returns-in-Err-clause-went : goal.returns-in-Err-clause-went
returns-in-Err-clause-went g c =
    let s = c.args.sheet.now in
    let t = c.pass.new.sheet in
    let nodes = ap (λ (h : Heading). h.figures.nodes) (c.in-Err.ensures.same_parts.heading ∙ c.loop-road.invariant.1.heading) in
    let node : c.in-Some.node < g.L.WorkList.bound t.list.now = omega (arith, g.met.L.WorkList.inside _ _ (g.met.L.WorkList.orderly.take_waits _ _ _ c.in-Some.ensures.takes), s.bound, t.bound, nodes) in
    let put = (granted _ c.put.result c.put.ensures.puts_or_refuses (λ e q. omega (arith, q.fault, node))).1 in
    let some = sym (labelled_as _ _ _ _ c.in-Some.node c.labels.ensures.same_heading c.labels.ensures.same_rows) ∙ sym c.has.ensures.whether_labelled ∙ c.if-not-has.false in
    let blocked = subst (λ (n : _). Blocked (g.N.Network.means n) c.in-Some.node c.loop-road.road (told c.loop-road.sheet) (told t)) c.loop-road.invariant.1.net c.in-Err.ensures.passed_or_full in
    stopped_turn g.L.WorkList.work _ (told s) c.take.new.self c.in-Some.node c.in-Some.ensures.takes some (told c.loop-road.sheet) c.loop-road.road c.loop-road.invariant.0 (told t) c.first_arrival-key.result c.put.new.self blocked
    (c.first_arrival-key.ensures.first_arrival ∙ read_as _ _ _ _ c.in-Some.node 0 c.labels-in-Err.ensures.same_heading c.labels-in-Err.ensures.same_rows) put

pub returns-clause-went : goal.returns-clause-went
returns-clause-went g c =
    let s = c.args.sheet.now in
    let some = sym (labelled_as _ _ _ _ c.in-Some.node c.labels.ensures.same_heading c.labels.ensures.same_rows) ∙ sym c.has.ensures.whether_labelled ∙ c.if-not-has.false in
    whole_turn g.L.WorkList.work _ (told s) c.take.new.self c.in-Some.node c.in-Some.ensures.takes some (told c.loop-road.sheet) c.loop-road.road c.loop-road.invariant.0
    (omega (arith, c.loop-road-test.false, c.loop-road.auto.road-end, c.roads-road-end.ensures.roads_held, s.ready.roads))
