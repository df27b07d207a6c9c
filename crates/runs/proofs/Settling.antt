-- Relaxing, turns and work leave even what was even, and raise no label.
use Rattle.std.proofs.Common.{◌≡◌, ℕ, ◌+◌, ◌<◌, ◌≤◌, min, Bool, true, false, cond, List, get_or, Some, sym, refl, ap, ◌∙◌, subst, ⊎_elim, arith}
use Rattle.curve.specs.declared.points.Point.{Point}
use Rattle.curve.specs.Curve.{reads}
use Rattle.corridor.proofs.Laws.{laws as corridor_laws}
use Rattle.rows.specs.Rows.{points, laid_back}
use Rattle.network.specs.Net.{Net, Lawful}
use Rattle.worklist.specs.Work.{Work, Orderly, Idle}
use Rattle.runs.specs.declared.Figures.{Figures}
use Rattle.runs.specs.declared.Outcome.{Outcome}
use Rattle.runs.specs.declared.Outcome.TheVariants.{Settled}
use Rattle.runs.specs.Ready.{Ready}
use Rattle.runs.specs.Sheet.{State, with_list, any, label, labelled, at, allow, over, lo, up, Within}
use Rattle.runs.specs.Turns.{Due, Changed, Relaxed, kept, changed, Passed, begins, passes, relaxes, Turned, idles, relaxed, Stopped, Turns, at_first, then_one, Worked, fills, settles, pauses}
use Rattle.runs.specs.Settling.{Even, Falls, Settles}
use Rattle.runs.proofs.Keeping.{clash, same, ordered, lo_low, replaced_laid, new_there}

-- even but for the roads from k on out of u
abbrev EvenBut : {L : Type 0} → Work L → Net → State L → ℕ → ℕ → Type 0
EvenBut w net s u k =
    (r : ℕ) → r < net.roads → get_or s.marks r 0 ≡ 0 → labelled s.heading s.rows (net.tail r) ≡ true → w.waits s.list (net.tail r) ≡ false → (net.tail r ≡ u → r < k) → Within net s.heading s.rows r

falls_stay : {L : Type 0} (s : State L) (l : L) → Falls s (with_list s l)
falls_stay s l = record { heading = refl; marks = refl; labels = λ x had. had; earlier = λ x t le had. omega arith }

falls_on : {L : Type 0} (s s₁ s₂ : State L) → Falls s s₁ → Falls s₁ s₂ → Falls s s₂
falls_on s s₁ s₂ a b = record {
  heading = b.heading ∙ a.heading;
  marks = b.marks ∙ a.marks;
  labels = λ x had. subst (λ (g : Figures). labelled g s₂.rows x ≡ true) a.heading (b.labels x (subst (λ (g : Figures). labelled g s₁.rows x ≡ true) (sym a.heading) (a.labels x had)));
  earlier = λ x t le had.
      let le₁ : t ≤ s₁.heading.window = subst (λ (g : Figures). t ≤ g.window) (sym a.heading) le in
      let had₁ = subst (λ (g : Figures). labelled g s₁.rows x ≡ true) (sym a.heading) (a.labels x had) in
      let step = subst (λ (g : Figures). at g s₂.rows x t ≤ at g s₁.rows x t) a.heading (b.earlier x t le₁ had₁) in
      omega (arith, step, a.earlier x t le had);
}

module _ {L : Type 0} (w : Work L) (orderly : Orderly w) (net : Net) (laws : Lawful net) (First : Type 0) where
  -- inside a turn of u that has passed the roads below k; First says that the sheet was even at first
  record On (s : State L) (u k : ℕ) : Type 0 where
    pub ready : Ready net s.heading s.rows
    pub some : labelled s.heading s.rows u ≡ true
    pub even : First → EvenBut w net s u k

  -- the label of the head of k changes
  module _ (s s' : State L) (u k : ℕ) (at_turn : On s u k) (d : Due net s u k) (c : Changed w net s k s') where
    abbrev f : Figures
    f = s.heading

    abbrev ready : Ready net f s.rows
    ready = at_turn.ready

    from : labelled f s.rows (net.tail k) ≡ true
    from = subst (λ (x : ℕ). labelled f s.rows x ≡ true) (sym d.leaves) at_turn.some

    label_new : label f s'.rows (net.head k) ≡ c.replaced.new
    label_new = ap points c.replaced.own ∙ laid_back f.places c.replaced.new

    other : (x : ℕ) → (x ≡ net.head k → ⊥) → label f s'.rows x ≡ label f s.rows x
    other x ne = ap points (c.replaced.others x ne)

    there : labelled f s'.rows (net.head k) ≡ true
    there = new_there net laws f ready.right ready.nodes s.rows ready.laid k d.road from s'.rows c.needed c.replaced

    high : (t : ℕ) → t ≤ f.window → at f s'.rows (net.head k) t ≤ up net f s.rows k t
    high t le =
        subst (λ (ps : List Point). reads ps t ≤ up net f s.rows k t) (sym label_new)
        (corridor_laws.label_held (lo net f s.rows k) (up net f s.rows k) f.window c.replaced.new (ordered net laws f ready.right ready.nodes s.rows ready.laid k d.road from)
        (lo_low net laws f ready.right ready.nodes s.rows ready.laid k d.road from f.window) c.replaced.corridor t le).1

    abbrev bound : Bool → ℕ → ℕ
    bound b t = cond b (min (at f s.rows (net.head k) t) (over net f s.rows k t + allow net f k)) (over net f s.rows k t + allow net f k)

    below : (t : ℕ) → t ≤ f.window → at f s'.rows (net.head k) t ≤ over net f s.rows k t + allow net f k
    below t le = go (labelled f s.rows (net.head k)) (high t le)
      where
        go : (b : Bool) → at f s'.rows (net.head k) t ≤ bound b t → at f s'.rows (net.head k) t ≤ over net f s.rows k t + allow net f k
        go true z = omega arith
        go false z = z

    falls_head : (t : ℕ) → t ≤ f.window → labelled f s.rows (net.head k) ≡ true → at f s'.rows (net.head k) t ≤ at f s.rows (net.head k) t
    falls_head t le had = let z = subst (λ (b : Bool). at f s'.rows (net.head k) t ≤ bound b t) had (high t le) in omega arith

    changed_falls : Falls s s'
    changed_falls = record {
      heading = c.heading;
      marks = c.marks;
      labels = λ x had. ⊎_elim (λ e. subst (λ (y : ℕ). labelled f s'.rows y ≡ true) (sym e) there) (λ ne. ap any (other x ne) ∙ had) (same x (net.head k));
      earlier = λ x t le had. ⊎_elim
          (λ e. subst (λ (y : ℕ). at f s'.rows y t ≤ at f s.rows y t) (sym e) (falls_head t le (subst (λ (y : ℕ). labelled f s.rows y ≡ true) e had)))
          (λ ne. omega (arith, ap (λ (ps : List Point). reads ps t) (other x ne)))
          (same x (net.head k));
    }

    -- over the figures as they were
    even_still : First → (r : ℕ) → r < net.roads → get_or s.marks r 0 ≡ 0 → labelled f s'.rows (net.tail r) ≡ true → w.waits s'.list (net.tail r) ≡ false → (net.tail r ≡ u → r < k + 1) → Within net f s'.rows r
    even_still first r road unmarked has idle past = ⊎_elim
        (λ e. absurd (clash (orderly.put_adds s.list s'.list (net.head k) _ c.put) (subst (λ (y : ℕ). w.waits s'.list y ≡ false) e idle)))
        (λ ne.
        let same_tail = other (net.tail r) ne in
        let was_idle = sym (orderly.put_keeps s.list s'.list (net.head k) _ c.put (net.tail r) ne) ∙ idle in
        let brings : (t : ℕ) → over net f s'.rows r t ≡ over net f s.rows r t = λ t. ap (λ (ps : List Point). net.cross r (reads ps t)) same_tail in
        ⊎_elim
        (λ e. record {
          some = subst (λ (y : ℕ). labelled f s'.rows (net.head y) ≡ true) (sym e) there;
          near = λ t le. omega (arith, brings t, subst (λ (y : ℕ). at f s'.rows (net.head y) t ≤ over net f s.rows y t + allow net f y) (sym e) (below t le));
        })
        (λ other_road.
        let had = at_turn.even first r road unmarked (ap any (sym same_tail) ∙ has) was_idle (λ out. omega (arith, past out, other_road)) in
        record {
          some = changed_falls.labels (net.head r) had.some;
          near = λ t le. omega (arith, brings t, changed_falls.earlier (net.head r) t le had.some, had.near t le);
        })
        (same r k))
        (same (net.tail r) (net.head k))

    abbrev StandsAt : Figures → Type 0
    StandsAt g = (r : ℕ) → r < net.roads → get_or s.marks r 0 ≡ 0 → labelled g s'.rows (net.tail r) ≡ true → w.waits s'.list (net.tail r) ≡ false → (net.tail r ≡ u → r < k + 1) → Within net g s'.rows r

    changed_on : On s' u (k + 1)
    changed_on = record {
      ready = subst (λ (g : Figures). Ready net g s'.rows) (sym c.heading) (record {
        right = ready.right;
        room = omega (arith, ready.room, c.replaced.size);
        nodes = ready.nodes;
        roads = ready.roads;
        laid = replaced_laid net laws f ready.right ready.nodes s.rows ready.laid k d.road from s'.rows c.needed c.replaced;
      });
      some = subst (λ (g : Figures). labelled g s'.rows u ≡ true) (sym c.heading) (changed_falls.labels u at_turn.some);
      even = λ first r road unmarked. subst StandsAt (sym c.heading) (even_still first) r road (ap (λ (ms : List ℕ). get_or ms r 0) (sym c.marks) ∙ unmarked);
    }

  -- one road of a turn
  relax_on : (s s' : State L) (u k : ℕ) → On s u k → Due net s u k → Relaxed w net s k s' → On s' u (k + 1) × Falls s s'
  relax_on s s' u k at_turn d (kept near e) = subst (λ (x : State L). On x u (k + 1) × Falls s x) (sym e) (
    record {
      ready = at_turn.ready;
      some = at_turn.some;
      even = λ first r road unmarked lab idle past. ⊎_elim (λ e. subst (Within net s.heading s.rows) (sym e) near) (λ ne. at_turn.even first r road unmarked lab idle (λ out. omega (arith, past out, ne))) (same r k);
    },
    falls_stay s s.list,
  )
  relax_on s s' u k at_turn d (changed c) = (changed_on s s' u k at_turn d c, changed_falls s s' u k at_turn d c)

  pass_on : (s : State L) (u k : ℕ) → On s u k → k < net.roads → (Due net s u k → ⊥) → On s u (k + 1)
  pass_on s u k at_turn lt free = record {
    ready = at_turn.ready;
    some = at_turn.some;
    even = λ first r road unmarked lab idle past. at_turn.even first r road unmarked lab idle (λ out. ⊎_elim (λ e. absurd (free (record { road = lt; leaves = subst (λ (x : ℕ). net.tail x ≡ u) e out; unmarked = subst (λ (x : ℕ). get_or s.marks x 0 ≡ 0) e unmarked }))) (λ ne. omega (arith, past out, ne)) (same r k));
  }

  passed_on : (s : State L) (u k : ℕ) (s₁ : State L) → On s u 0 → Passed w net u s k s₁ → On s₁ u k × Falls s s₁
  passed_on s u k s₁ at_turn begins = (at_turn, falls_stay s s.list)
  passed_on s u k s₁ at_turn (passes {k = i} p lt free) = let g = passed_on s u i s₁ at_turn p in (pass_on s₁ u i g.0 lt free, g.1)
  passed_on s u k s₁ at_turn (relaxes {k = i} {s₁ = s₀} p d r) =
      let g = passed_on s u i s₀ at_turn p in
      let h = relax_on s₀ s₁ u i g.0 d r in
      (h.0, falls_on s s₀ s₁ g.1 h.1)

  -- between turns
  record Rests (s : State L) : Type 0 where
    pub ready : Ready net s.heading s.rows
    pub even : First → Even w net s

  -- the node taken no longer waits, and none of its roads is relaxed yet
  take_on : (s : State L) (u : ℕ) (l : L) → w.takes s.list (Some u) l → Rests s → labelled s.heading s.rows u ≡ true → On (with_list s l) u 0
  take_on s u l took rests some = record {
    ready = rests.ready;
    some = some;
    even = λ first r road unmarked lab idle past.
        let away : net.tail r ≡ u → ⊥ = λ out. omega (arith, past out) in
        let x = rests.even first r road unmarked lab (sym (orderly.take_keeps s.list l u took (net.tail r) away) ∙ idle) in
        record { some = x.some; near = x.near };
  }

  turn_rests : (s s' : State L) → Rests s → Turned w net s s' → Rests s' × Falls s s'
  turn_rests s s' rests (idles u l took bare e) = subst (λ (x : State L). Rests x × Falls s x) (sym e) (
    record {
      ready = rests.ready;
      even = λ first r road unmarked lab idle.
          let away : net.tail r ≡ u → ⊥ = λ out. clash lab (ap (labelled s.heading s.rows) out ∙ bare) in
          let x = rests.even first r road unmarked lab (sym (orderly.take_keeps s.list l u took (net.tail r) away) ∙ idle) in
          record { some = x.some; near = x.near };
    },
    falls_stay s l,
  )
  turn_rests s s' rests (relaxed u l took lab p) =
      let g = passed_on (with_list s l) u net.roads s' (take_on s u l took rests lab) p in
      (record { ready = g.0.ready; even = λ first r road unmarked has idle. g.0.even first r road unmarked has idle (λ _. road) }, falls_on s (with_list s l) s' (falls_stay s l) g.1)

  -- a node that is put back waits
  stop_rests : (s : State L) (r : ℕ) (s' : State L) → Rests s → Stopped w net s r s' → Rests s' × Falls s s'
  stop_rests s q s' rests x =
      let g = passed_on (with_list s x.left) x.node q x.last (take_on s x.node x.left x.taken rests x.some) x.passed in
      subst (λ (y : State L). Rests y × Falls s y) (sym x.is) (
        record {
          ready = g.0.ready;
          even = λ first r road unmarked has idle.
              let away : net.tail r ≡ x.node → ⊥ = λ out. clash (orderly.put_adds x.last.list x.back x.node _ x.put) (subst (λ (y : ℕ). w.waits x.back y ≡ false) out idle) in
              let y = g.0.even first r road unmarked has (sym (orderly.put_keeps x.last.list x.back x.node _ x.put (net.tail r) away) ∙ idle) (λ out. absurd (away out)) in
              record { some = y.some; near = y.near };
        },
        falls_on s x.last (with_list x.last x.back) (falls_on s (with_list s x.left) x.last (falls_stay s x.left) g.1) (falls_stay x.last x.back),
      )

  turns_rest : (s : State L) (i : ℕ) (s₁ : State L) → Rests s → Turns w net s i s₁ → Rests s₁ × Falls s s₁
  turns_rest s i s₁ rests at_first = (rests, falls_stay s s.list)
  turns_rest s i s₁ rests (then_one {i = j} {s₁ = s₀} p x) =
      let g = turns_rest s j s₀ rests p in
      let h = turn_rests s₀ s₁ g.0 x in
      (h.0, falls_on s s₀ s₁ g.1 h.1)

  work_rests : (s : State L) (k i : ℕ) (a : Outcome) (s' : State L) → Rests s → Worked w net s k i a s' → Rests s' × Falls s s'
  work_rests s k i a s' rests (fills {r = r} {s₁ = s₁} lt p x) =
      let g = turns_rest s i s₁ rests p in
      let h = stop_rests s₁ r s' g.0 x in
      (h.0, falls_on s s₁ s' g.1 h.1)
  work_rests s k i a s' rests (settles le p x) = turns_rest s i s' rests p
  work_rests s k i a s' rests (pauses e p x) = turns_rest s i s' rests p

-- settled, nothing waits
idle_after : {L : Type 0} (w : Work L) (net : Net) (s : State L) (k i : ℕ) (a : Outcome) (s' : State L) → Worked w net s k i a s' → a ≡ Settled → Idle w s'.list
idle_after w net s k i a s' (fills lt p x) e = let z : ◌≡◌ {A = ℕ} 0 1 = cc in absurd (omega arith)
idle_after w net s k i a s' (settles le p x) e = x
idle_after w net s k i a s' (pauses is p x) e = let z : ◌≡◌ {A = ℕ} 0 1 = cc in absurd (omega arith)

pub work_settles : {L : Type 0} (w : Work L) (orderly : Orderly w) (net : Net) (laws : Lawful net) (s : State L) (k i : ℕ) (a : Outcome) (s' : State L) → Ready net s.heading s.rows → Worked w net s k i a s' → Settles w net s a s'
work_settles w orderly net laws s k i a s' ready worked =
    let g = work_rests w orderly net laws (Even w net s) s k i a s' (record { ready = ready; even = λ e. e }) worked in
    record {
      even = λ e. g.0.even e;
      all_within = λ is e r road unmarked lab. g.0.even e r road unmarked lab (idle_after w net s k i a s' worked is (net.tail r));
      falls = g.1;
    }
