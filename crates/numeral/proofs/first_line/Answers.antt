use Rattle.numeral.proofs.FirstLine.{first_of}
use Rattle.numeral.proofs.first_line.Goals as goal

pub returns : goal.returns
returns c =
    let f = first_of c.args.text.now c.cut_at.result _ c.requires c.cut_at.ensures.cuts_at_first (cc) (cc) in
    rw c.unwrap_or.ensures (record { takes_first_line = f.0; leaves_less = f.1 })
