use Rattle.std.proofs.Common.{ℕ, ◌+◌, ◌<◌, ap, ◌∙◌, arith}
use Rattle.runs.specs.declared.heading.Heading.{Heading}
use Rattle.runs.specs.Formed.{latest}
use Rattle.runs.specs.Sheet.{at}
use Rattle.runs.proofs.Reading.{label_high, read_as}
use Rattle.runs.proofs.Keeping.{allow_small, latest_bound, tail_label}
use Rattle.relaxing.proofs.step.corridor_of.Goals as goal

pub cross_each-requires-clause-late : goal.cross_each-requires-clause-late
cross_each-requires-clause-late g c =
    let s = c.args.sheet.now in
    omega (arith, c.allowance.ensures.allowance_is, allow_small _ s.heading.figures c.args.road (g.N.Network.lawful s.net.now) s.ready.right.allowance (omega (arith, c.requires.road, s.ready.roads)))

pub cross_each-requires-clause-asked : goal.cross_each-requires-clause-asked
cross_each-requires-clause-asked g c = λ t lt.
    let s = c.args.sheet.now in
    let f = s.heading.figures in
    let road : c.args.road < (g.N.Network.means s.net.now).roads = omega (arith, c.requires.road, s.ready.roads) in
    let lab = tail_label _ (g.N.Network.lawful s.net.now) f s.ready.right s.ready.nodes s.rows.now s.ready.laid c.args.road road c.requires.labelled in
    let le : t < f.window + 1 = omega (arith, lt, c.requires.lo_long, c.sample.auto.out) in
    let same = c.labels-labels.ensures.same_heading in
    let read = c.sample.ensures.each_departure_read t (omega (arith, le, ap (λ (h : Heading). h.figures.window) same)) in
    let reads = read_as _ _ _ _ c.tail.result t same c.labels-labels.ensures.same_rows ∙ ap (λ (v : ℕ). at f s.rows.now v t) c.tail.ensures.tail_is in
    omega (arith, read, reads, label_high f.window (latest f s.rows.now) _ lab t (omega (arith, le)), latest_bound f s.rows.now s.ready.right)
