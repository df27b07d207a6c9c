use Rattle.std.proofs.Common.{not, ap, ◌∙◌, refl, arith}
use Rattle.std.proofs.lemmas.Result.{err_from_is_err_and}
use Rattle.keyed.proofs.Waiting.{same_list, gains, put_tally, put_once}
use Rattle.keyed.proofs.list.KeyedWorkList.put.Goals as goal

pub returns-in_err-insert : goal.returns-in_err-insert
returns-in_err-insert c =
    let refused = c.in_err-insert.ensures.adds_or_refuses in
    let err = err_from_is_err_and c.from_residual.result c.from_residual.ensures.1 in
    rw (err.1, err.2) (record { puts_or_refuses = record { range = refused.range; fault = refused.fault; unaltered = same_list c.args.self.now _ refused.unaltered refl } })

pub invariant_of-self-then-branch : goal.invariant_of-self-then-branch
invariant_of-self-then-branch c =
    let l = c.args.self.now in
    let v = c.args.node in
    let key = c.args.key in
    let t = c.insert.new.self in
    let q = c.push.new.self in
    let added = c.in_ok-insert.ensures.adds_or_refuses in
    let off = added.1 ∙ ap not c.if-branch.true in
    let gained = gains l v key t off added.0 added.2 q c.push.result c.push.ensures.gains_or_refuses in
    record { sound = c.push.ensures.sound l.sound; space = omega (arith, c.push.ensures.room, l.space); tally = put_tally l v key t off added.0 added.2 q gained; once = put_once l v key t off added.0 added.2 q gained }
