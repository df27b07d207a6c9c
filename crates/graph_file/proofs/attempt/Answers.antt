use Rattle.std.proofs.Common.{rules, arith}
use Rattle.graph_file.proofs.Ruled.{laid_right, overtaken}
use Rattle.graph_file.proofs.attempt.Goals as goal

pub returns-in-Some : goal.returns-in-Some
returns-in-Some c =
    let g = c.in_ok-loaded.ensures.reads_files in
    let t = c.lay_out.new.self in
    let same = c.lay_out.ensures.same_tables in
    let placed = rw (same.loaded, same.spacing) at t.placed in
    let one = rw same.loaded at c.in-Some.ensures.lowest_that_falls in
    record { attempts = overtaken c.args.limits c.args.spacing c.args.text.now c.in_ok-loaded.loaded c.in-Some.road _ t.roads.now _ t.points.now g (omega arith) placed (c.lay_out.ensures.lays_out g.arcs g.kept) one }

pub returns-in-None : goal.returns-in-None
returns-in-None c =
    let g = c.in_ok-loaded.ensures.reads_files in
    let t = c.lay_out.new.self in
    let same = c.lay_out.ensures.same_tables in
    let placed = rw (same.loaded, same.spacing) at t.placed in
    let none = rw same.loaded at c.in-None.ensures.lowest_that_falls in
    record { attempts = laid_right c.args.limits c.args.spacing c.args.text.now c.in_ok-loaded.loaded _ t.roads.now _ _ t.points.now _ g (omega arith) placed (c.lay_out.ensures.lays_out g.arcs g.kept) none (search rules) (search rules) }
