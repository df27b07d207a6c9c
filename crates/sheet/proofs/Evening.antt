-- A sheet that begins anew is even: its only label is the origin's, and the origin waits.
use Rattle.std.proofs.Common.{◌≡◌, ℕ, false, List, sym, ap, ◌∙◌, subst, ⊎_elim, arith}
use Rattle.rows.specs.Rows.{points}
use Rattle.network.specs.Net.{Net, Lawful}
use Rattle.worklist.specs.Work.{Work, Orderly}
use Rattle.runs.specs.Settling.{Even}
use Rattle.runs.specs.Sheet.{State, row, any}
use Rattle.runs.proofs.Keeping.{clash, same}
use Rattle.runs.specs.Once.{blank_points}
use Rattle.sheet.specs.Restarts.{Restarted}

pub restarted_even : {L : Type 0} (w : Work L) (orderly : Orderly w) (net : Net) (laws : Lawful net) (s : State L) (v : ℕ) (s' : State L) → net.nodes ≡ s.heading.nodes → s'.heading.places ≡ s.heading.places → Restarted w s v s' → Even w net s'
restarted_even w orderly net laws s v s' nodes places x r road unmarked has idle = ⊎_elim
    (λ e. absurd (clash (orderly.put_adds x.cleared s'.list v 0 x.put) (subst (λ (y : ℕ). w.waits s'.list y ≡ false) e idle)))
    (λ ne. absurd (clash (ap (λ (P : ℕ). any (points (row P s'.rows (net.tail r)))) (sym places) ∙ has) (ap (λ (xs : List ℕ). any (points xs)) (x.others (net.tail r) (omega (arith, laws.tails r road, nodes)) ne) ∙ ap any (blank_points s.heading.places))))
    (same (net.tail r) v)
