use Rattle.std.proofs.Common.{◌∙◌, ◌-◌, sym, ap, length, take, drop, Bool, ◌&&◌}
use Rattle.std.specs.List.{list_all, zip}
use Rattle.timetable.specs.Rules.{ascending_by_pairs, follows}
use Rattle.timetable.specs.Timetables.{no_interval}
use Rattle.timetable.proofs.judging.is_ascending.Goals as goal

pub returns-then-is_within : goal.returns-then-is_within
returns-then-is_within c =
    let run = c.args.run.now in
    let first = ap (λ (b : Bool). b && list_all (follows c.args.period) (zip run (take (length run - 1) (drop 1 run)))) (sym c.if-is_within.ensures.as_ruled) in
    record { as_ruled = c.are_followed.ensures.as_ruled ∙ sym (ascending_by_pairs c.args.period run no_interval c.in-len1-up.len_at_least ∙ first) }
