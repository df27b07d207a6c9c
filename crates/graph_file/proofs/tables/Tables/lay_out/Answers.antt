use Rattle.std.proofs.Common.{◌∙◌}
use Rattle.graph_file.proofs.Lay.{laid}
use Rattle.graph_file.proofs.tables.Tables.lay_out.Goals as goal

pub returns-clause-lays_out : goal.returns-clause-lays_out
returns-clause-lays_out c arcs kept =
    let t = c.args.self.now in
    let spread = c.spread.ensures in
    let stamp = c.stamp.ensures in
    let loaded = stamp.same_tables.loaded ∙ spread.same_tables.loaded in
    let roads = stamp.keeps_roads ∙ spread.keeps_roads in
    let departures = rw (spread.same_tables.loaded, spread.same_tables.spacing) at stamp.writes_departures in
    let runs = rw (loaded, roads) at c.give_runs.ensures.writes_runs in
    rw c.give_runs.ensures.keeps_points (laid t.loaded t.spacing arcs t.roads.now _ t.points.now _ _ t.placed.some spread.writes_arrivals departures runs kept)
