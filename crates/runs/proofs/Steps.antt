-- What relaxing a road keeps.
use Rattle.std.proofs.Common.{◌≡◌, ℕ, ◌<◌, true, List, sym, ap, ◌∙◌, subst, ⊎_elim, arith}
use Rattle.rows.specs.Rows.{points}
use Rattle.network.specs.Net.{Net, Lawful}
use Rattle.worklist.specs.Work.{Work}
use Rattle.runs.specs.Ready.{Ready}
use Rattle.runs.specs.Sheet.{State, any, labelled}
use Rattle.runs.specs.Turns.{Relaxed, kept, changed}
use Rattle.runs.proofs.Keeping.{same, replaced_laid, new_there}

module _ {L : Type 0} (w : Work L) (net : Net) (laws : Lawful net) (s s' : State L) (r : ℕ) (ready : Ready net s.heading s.rows) (road : r < net.roads) (some : labelled s.heading s.rows (net.tail r) ≡ true) where
  pub relaxed_ready : Relaxed w net s r s' → Ready net s.heading s'.rows
  relaxed_ready (kept near e) = subst (Ready net s.heading) (sym (ap (λ (x : State L). x.rows) e)) ready
  relaxed_ready (changed c) = record {
    right = ready.right;
    room = omega (arith, ready.room, c.replaced.size);
    nodes = ready.nodes;
    roads = ready.roads;
    laid = replaced_laid net laws s.heading ready.right ready.nodes s.rows ready.laid r road some s'.rows c.needed c.replaced;
  }

  -- no label is lost
  pub relaxed_labels : (x : ℕ) → labelled s.heading s.rows x ≡ true → Relaxed w net s r s' → labelled s.heading s'.rows x ≡ true
  relaxed_labels x had (kept near e) = subst (λ (rs : List ℕ). labelled s.heading rs x ≡ true) (sym (ap (λ (y : State L). y.rows) e)) had
  relaxed_labels x had (changed c) = ⊎_elim
      (λ e. subst (λ (y : ℕ). labelled s.heading s'.rows y ≡ true) (sym e) (new_there net laws s.heading ready.right ready.nodes s.rows ready.laid r road some s'.rows c.needed c.replaced))
      (λ ne. ap (λ (xs : List ℕ). any (points xs)) (c.replaced.others x ne) ∙ had)
      (same x (net.head r))
