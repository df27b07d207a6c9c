-- One road of a turn, and whole turns.
use Rattle.std.proofs.Common.{◌≡◌, ℕ, ◌<◌, ◌≤◌, true, false, List, get_or, Some, Ok, Err, Result, sym, refl, ap, ◌∙◌, subst, MatchResult}
use Rattle.std.proofs.lemmas.Result.{MatchResult-weaker}
use Rattle.network.specs.Net.{Net, Lawful}
use Rattle.worklist.specs.Work.{Work, Idle}
use Rattle.runs.specs.declared.Outcome.TheVariants.{Settled}
use Rattle.runs.specs.Ready.{Ready}
use Rattle.runs.specs.Sheet.{State, with_list, labelled, at}
use Rattle.runs.specs.Turns.{Due, Relaxed, Full, Filled, Passed, passes, relaxes, Turned, idles, relaxed, Stopped, Turns, Worked, settles}
use Rattle.runs.proofs.Steps.{relaxed_labels}
use Rattle.turns.specs.Passing.{Steps, Blocked}

module _ {L : Type 0} (w : Work L) (net : Net) (s : State L) (u r : ℕ) (road : r < net.roads) where
  pub skips_marked : (get_or s.marks r 0 ≡ 0 → ⊥) → Steps w net u r s s
  skips_marked ne = λ s₀ p. passes p road (λ d. ne d.unmarked)

  pub skips_away : (x : ℕ) → x ≡ net.tail r → (x ≡ u → ⊥) → Steps w net u r s s
  skips_away x is ne = λ s₀ p. passes p road (λ d. ne (is ∙ d.leaves))

module _ {L : Type 0} (w : Work L) (net : Net) (laws : Lawful net) (s s' : State L) (u r : ℕ) (ready : Ready net s.heading s.rows) (road : r < net.roads) (unmarked : get_or s.marks r 0 ≡ 0) (leaves : net.tail r ≡ u) (some : labelled s.heading s.rows u ≡ true) where
  -- what relaxing the road did, as a step of the turn
  pub passed_by : {A E : Type 0} (a : Result A E) → MatchResult a (λ _. Relaxed w net s r s') (λ _. Filled net s r s') → MatchResult a (λ _. Steps w net u r s s') (λ _. Blocked net u r s s')
  passed_by a y =
      let due : Due net s u r = record { road = road; leaves = leaves; unmarked = unmarked } in
      MatchResult-weaker a y (λ _ y. λ s₀ p. relaxes p due y) (λ _ y. record { due = due; filled = y })

  pub labelled_still : {A E : Type 0} (a : Result A E) → MatchResult a (λ _. Relaxed w net s r s') (λ _. Filled net s r s') → labelled s.heading s'.rows u ≡ true
  labelled_still (Ok x) y = relaxed_labels w net laws s s' r ready road (subst (λ (v : ℕ). labelled s.heading s.rows v ≡ true) (sym leaves) some) u some y
  labelled_still (Err x) y = subst (λ (rs : List ℕ). labelled s.heading rs u ≡ true) (sym (ap (λ (x : State L). x.rows) y.same)) some

module _ {L : Type 0} (w : Work L) (net : Net) (s : State L) (l : L) (u : ℕ) (took : w.takes s.list (Some u) l) where
  pub idle_turn : labelled s.heading s.rows u ≡ false → Turned w net s (with_list s l)
  idle_turn bare = idles u l took bare refl

  module _ (some : labelled s.heading s.rows u ≡ true) (s₁ : State L) (r : ℕ) (p : Passed w net u (with_list s l) r s₁) where
    pub whole_turn : r ≡ net.roads → Turned w net s s₁
    whole_turn e = relaxed u l took some (subst (λ (i : ℕ). Passed w net u (with_list s l) i s₁) e p)

    pub stopped_turn : (s₂ : State L) (key : ℕ) (back : L) → Blocked net u r s₁ s₂ → key ≡ at s₂.heading s₂.rows u 0 → w.puts s₂.list u key back → Stopped w net s r (with_list s₂ back)
    stopped_turn s₂ key back b is put = record {
      node = u;
      left = l;
      taken = took;
      some = some;
      last = s₂;
      passed = subst (Passed w net u (with_list s l) r) (sym b.filled.same) p;
      due = subst (λ (x : State L). Due net x u r) (sym b.filled.same) b.due;
      long = subst (λ (x : State L). Full net x r) (sym b.filled.same) b.filled.full_at;
      back = back;
      put = subst (λ (k : ℕ). w.puts s₂.list u k back) is put;
      is = refl;
    }

pub settles_idle : {L : Type 0} (w : Work L) (net : Net) (s s₁ s' : State L) (k i : ℕ) → i ≤ k → Turns w net s i s₁ → Idle w s₁.list × (s' ≡ s₁) → Worked w net s k i Settled s'
settles_idle w net s s₁ s' k i le p x = subst (Worked w net s k i Settled) (sym x.1) (settles le p x.0)

pub as_many : {L : Type 0} (w : Work L) (net : Net) (s s₁ : State L) (k i : ℕ) → i ≡ k → Turns w net s i s₁ → Turns w net s k s₁
as_many w net s s₁ k i e p = subst (λ (j : ℕ). Turns w net s j s₁) e p
