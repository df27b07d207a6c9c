use Rattle.std.proofs.Common.{◌∙◌, nat_le, rules}
use Rattle.std.proofs.lemmas.Iterator.{YieldsList-from_slice}
use Rattle.std.proofs.lemmas.Iterator.Search.{find_from_yields_List}
use Rattle.timetable.proofs.hours.Hours.next_open.Goals as goal

pub returns : goal.returns
returns c =
    let all = YieldsList-from_slice c.args.self.now.intervals.now c.iter.ensures.rest in
    record { first_or_none = c.copied.ensures ∙ find_from_yields_List (λ i. nat_le c.args.k i.closes) _ _ c.find.result c.find.ensures.ran all (λ i b q k. search rules) }
