use Rattle.std.proofs.Common.{refl, subst, arith}
use Rattle.runs.specs.Parts.{told}
use Rattle.runs.specs.Turns.{at_first, then_one, fills, settles, pauses, Turned, Stopped}
use Rattle.runs.proofs.Parts.{parts_on, parts_same}
use Rattle.turns.proofs.Passing.{settles_idle, as_many}
use Rattle.turns.proofs.turning.turns.Goals as goal

pub loop-done-init : goal.loop-done-init
loop-done-init g c = (at_first, parts_same _)

pub returns-in-Idle-clause-worked : goal.returns-in-Idle-clause-worked
returns-in-Idle-clause-worked g c = settles_idle _ _ _ _ _ _ _ (omega arith) c.loop-done.invariant.0 c.in-Idle.ensures.went

pub returns-in-Full-clause-worked : goal.returns-in-Full-clause-worked
returns-in-Full-clause-worked g c =
    fills (omega arith) c.loop-done.invariant.0 (subst (λ (n : _). Stopped g.L.WorkList.work (g.N.Network.means n) (told c.loop-done.sheet) c.in-Full.road (told c.turn.new.sheet)) c.loop-done.invariant.1.net c.in-Full.ensures.went)

pub loop-done-preserved : goal.loop-done-preserved
loop-done-preserved g c = (
  then_one c.loop-done.invariant.0 (subst (λ (n : _). Turned g.L.WorkList.work (g.N.Network.means n) (told c.loop-done.sheet) (told c.turn.new.sheet)) c.loop-done.invariant.1.net c.in-Finished.ensures.went),
  parts_on _ _ _ c.loop-done.invariant.1 c.in-Finished.ensures.same_parts,
)

pub returns-then-is_empty-clause-worked : goal.returns-then-is_empty-clause-worked
returns-then-is_empty-clause-worked g c =
    settles (omega arith) (as_many _ _ _ _ _ _ (omega (arith, c.loop-done-test.false, c.loop-done.auto.done-end)) c.loop-done.invariant.0) c.if-is_empty.ensures.none_waits_or_some

pub returns-else-is_empty-clause-worked : goal.returns-else-is_empty-clause-worked
returns-else-is_empty-clause-worked g c =
    pauses refl (as_many _ _ _ _ _ _ (omega (arith, c.loop-done-test.false, c.loop-done.auto.done-end)) c.loop-done.invariant.0) c.if-is_empty.ensures.none_waits_or_some
