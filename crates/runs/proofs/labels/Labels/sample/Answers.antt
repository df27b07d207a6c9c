use Rattle.std.proofs.Common.{◌≡◌, List, length, sym, ap, ◌∙◌, true, subst, arith}
use Rattle.std.proofs.lemmas.List.{length-take-le}
use Rattle.curve.specs.declared.points.Point.{Point}
use Rattle.curve.specs.Curve.{climbing, reads}
use Rattle.rows.specs.Rows.{points}
use Rattle.runs.specs.Figured.{right_tells}
use Rattle.runs.specs.Formed.{Label, latest}
use Rattle.runs.proofs.Reading.{label_high, row_shows}
use Rattle.runs.proofs.Keeping.{latest_bound}
use Rattle.runs.proofs.labels.Labels.sample.Goals as goal

pub read_row-count-requires : goal.read_row-count-requires
read_row-count-requires c =
    let s = c.args.self.now in
    let right = right_tells s.heading.figures s.heading.lawful in
    let shows = row_shows s.heading.figures s.rows.now c.requires.laid c.args.node c.requires.node c.requires.labelled c.row.result.now c.row.ensures.row_is in
    record { whole = omega (arith, shows.few, c.row.ensures.whole); room = omega (arith, shows.few, right.most, right.day) }

pub slice_bounds-points-end : goal.slice_bounds-points-end
slice_bounds-points-end c =
    let s = c.args.self.now in
    let right = right_tells s.heading.figures s.heading.lawful in
    let shows = row_shows s.heading.figures s.rows.now c.requires.laid c.args.node c.requires.node c.requires.labelled c.row.result.now c.row.ensures.row_is in
    omega (arith, shows.few, c.read_row-count.ensures.count, c.read_row-count.auto.out, right.most, right.day)

pub slice_bounds-new-end : goal.slice_bounds-new-end
slice_bounds-new-end c =
    let s = c.args.self.now in
    let right = right_tells s.heading.figures s.heading.lawful in
    let shows = row_shows s.heading.figures s.rows.now c.requires.laid c.args.node c.requires.node c.requires.labelled c.row.result.now c.row.ensures.row_is in
    sym (length-take-le c.read_row-count.result c.read_row-count.new.out (omega (arith, shows.few, c.read_row-count.ensures.count, c.read_row-count.auto.out, right.most, right.day)))

pub new-requires : goal.new-requires
new-requires c =
    let s = c.args.self.now in
    let shows = row_shows s.heading.figures s.rows.now c.requires.laid c.args.node c.requires.node c.requires.labelled c.row.result.now c.row.ensures.row_is in
    let read = sym c.read_row-count.ensures.label_read in
    record { some = omega (arith, ap length read, shows.holds_label.two); climbing = subst (λ (ps : List Point). climbing ps ≡ true) read shows.holds_label.climbs }

pub sample-requires : goal.sample-requires
sample-requires c =
    let s = c.args.self.now in
    let f = s.heading.figures in
    let right = right_tells f s.heading.lawful in
    let shows = row_shows f s.rows.now c.requires.laid c.args.node c.requires.node c.requires.labelled c.row.result.now c.row.ensures.row_is in
    let is : c.new.result.points.now ≡ points c.row.result.now = c.new.ensures.its_points ∙ c.read_row-count.ensures.label_read in
    let lab : Label f.window (latest f s.rows.now) c.new.result.points.now = subst (Label f.window (latest f s.rows.now)) (sym is) shows.holds_label in
    record {
      begins = lab.starts;
      short = omega (arith, c.requires.departures, right.day);
      fits = λ t lt. omega (arith, label_high f.window _ _ lab t (omega (arith, lt, c.requires.departures)), latest_bound f s.rows.now right);
    }

pub returns : goal.returns
returns c =
    let is = c.new.ensures.its_points ∙ c.read_row-count.ensures.label_read ∙ ap points c.row.ensures.row_is in
    record { each_departure_read = λ t le. c.sample.ensures.each_minute_read t (omega (arith, le, c.requires.departures, c.sample.auto.out)) ∙ ap (λ (ps : List Point). reads ps t) is }
