-- Where the first fault is, and what decides it.
use Rattle.std.proofs.Common.{◌≡◌, ℕ, zero, suc, ◌+◌, ◌-◌, ◌*◌, ◌<◌, ◌≤◌, max, Bool, true, false, cond, ◌&&◌, ◌||◌, eqb, ltb, leb, ◌⊎◌, List, [], ◌∷◌, ◌++◌, map, length, get_or, take, Some, None, Ok, Err, Option, Result, sym, refl, ap, ◌∙◌, subst, inl, inr, arith}
use Rattle.graph_file.proofs.Passing.{never, passed, passed_after, passed_twice}
use Rattle.graph_file.specs.Files.{arcs_in, begun, end_of, file_of, files_of, here_of, judged, line_at, or_refused, refused_at, with_arcs}
use Rattle.graph_file.specs.Steps.{arc_fits, next_arc, next_file, same_ends, step}
use Rattle.graph_file.specs.declared.machine.Fault.{Fault}
use Rattle.graph_file.specs.declared.machine.Fault.TheVariants.{BadText, OverQuota}
use Rattle.graph_file.specs.declared.machine.Limits.{Limits}
use Rattle.graph_file.specs.declared.machine.Loaded.{Loaded}
use Rattle.graph_file.specs.declared.machine.Progress.{Progress}
use Rattle.graph_file.proofs.Keep.{at}
use Rattle.graph_laws.specs.Faults.{FrontDecides, NamesLine, begun_in}
use Rattle.graph_line.specs.Statements.{arc_by, crossing_or_broken, problem_by, problem_or_broken, said}
use Rattle.graph_line.specs.declared.Arc.{Arc}
use Rattle.graph_line.specs.declared.Statement.{Statement}
use Rattle.graph_line.specs.declared.Statement.TheVariants.{Comment, Problem, Crossing, BrokenProblem, Broken}
use Rattle.network.specs.declared.tables.Road.{Road}
use Rattle.numeral.specs.Decimals.{number_in}
use Rattle.numeral.specs.Texts.{lines}
use Rattle.refusal.specs.Refusals.{places}
use Rattle.refusal.specs.declared.Refusal.{Refusal}
use Rattle.refusal.specs.declared.Refusal.TheVariants.{Text}
use Rattle.std.proofs.lemmas.Bool.{cases_Bool, eqb-true, ne_eqb}

abbrev Read : Type 0
Read = Loaded × List Arc

-- a line begins a file where it begins with p
problem_begins : (o : Option (ℕ × ℕ)) → begun (problem_or_broken o) ≡ 1
problem_begins None = refl
problem_begins (Some p) = refl

arc_begins : (o : Option Arc) → begun (crossing_or_broken o) ≡ 0
arc_begins None = refl
arc_begins (Some a) = refl

begins : (line : List ℕ) → begun (said line) ≡ cond (eqb (get_or line 0 0) 112) 1 0
begins [] = refl
begins (b ∷ bs) =
    elim (cases_Bool (eqb b 99)) [
      | inl e ↦ let n : eqb b 112 ≡ false = ne_eqb b 112 (λ q. omega (arith, q, eqb-true b 99 e)) in rw (e, n) refl
      | inr e ↦ elim (cases_Bool (eqb b 112)) [
        | inl f ↦ rw (e, f) (problem_begins (problem_by number_in (b ∷ bs)))
        | inr f ↦ elim (cases_Bool (eqb b 97)) [
          | inl g ↦ rw (e, f, g) (arc_begins (arc_by number_in (b ∷ bs)))
          | inr g ↦ rw (e, f, g) refl
        ]
      ]
    ]

-- a file has begun
abbrev Begun : Option Progress → Type 0
Begun None = Unit {0}
Begun (Some p) = 1 ≤ p.loaded.files

-- a line that was right counts as it begins
abbrev Counts : Option Progress → Statement → Option Progress → Type 0
Counts s x t = (files_of t ≡ files_of s + begun x) × (Begun s → Begun t)

counted : (lim : Limits) (s t : Option Progress) (here : Road) (x : Statement) → step lim s here x ≡ Ok t → Counts s x t
counted lim None t here Comment e = let q : ◌≡◌ {A = Option Progress} None t = cc in subst (Counts None Comment) q (refl, (λ b. b))
counted lim None t here (Problem n m) e =
    let q = passed_after (eqb n 0) (leb n lim.nodes && (leb m lim.roads && leb m lim.points)) (Some (at n m 1 0)) t OverQuota BadText e in
    subst (Counts None (Problem n m)) q.2 (refl, (λ b. omega arith))
counted lim None t here (Crossing a) e = never BadText t e
counted lim None t here BrokenProblem e = never BadText t e
counted lim None t here Broken e = never BadText t e
counted lim (Some p) t here Comment e = let q : Some p ≡ t = cc in subst (Counts (Some p) Comment) q (omega arith, (λ b. b))
counted lim (Some p) t here (Problem a b) e =
    let got = p.loaded in
    let q = passed_twice (eqb p.done got.roads && (eqb a got.nodes && eqb b got.roads)) (ltb got.files 48 && leb (got.roads * (got.files + 1)) lim.points) (Some (next_file p)) t OverQuota BadText e in
    subst (Counts (Some p) (Problem a b)) q.2 (refl, (λ c. omega arith))
counted lim (Some p) t here (Crossing a) e =
    let got = p.loaded in
    let q = passed (ltb p.done got.roads && (arc_fits got.nodes a && (eqb got.files 1 || same_ends here a))) (Some (next_arc p)) t BadText e in
    subst (Counts (Some p) (Crossing a)) q.1 (omega arith, (λ b. b))
counted lim (Some p) t here BrokenProblem e = never BadText t e
counted lim (Some p) t here Broken e = never BadText t e

-- the fault is at this line or at a later one
fault_here : (file k : ℕ) (x : Result (Option Progress) Fault) (go : Option Progress → Result Read Refusal) (e : Refusal) → or_refused file k x go ≡ Err e → ((f : Fault) × (x ≡ Err f) × (refused_at f file k ≡ e)) ⊎ ((t : Option Progress) × (x ≡ Ok t) × (go t ≡ Err e))
fault_here file k (Ok t) go e h = inr (t, refl, h)
fault_here file k (Err f) go e h = inl (f, refl, (cc))

-- the fault is after the last line
fault_after : (b : Bool) (arcs : List Arc) (r : Loaded) (x e : Refusal) → with_arcs arcs (cond b (Ok r) (Err x)) ≡ Err e → x ≡ e
fault_after true arcs r x e h = never e (r, arcs) (sym h)
fault_after false arcs r x e h = cc

-- where a fault is, in the lines from the k-th on
record Where (s : Option Progress) (k : ℕ) (raw : List (List ℕ)) (e : Refusal) : Type 0 where
  from : k ≤ (places e).line
  to : (places e).line ≤ k + length raw
  file_is : (places e).file ≡ max 1 (files_of s + begun_in (take ((places e).line + 1 - k) raw))

one_line : (k : ℕ) → k + 1 - k ≡ 1
one_line k = omega arith

where_after : (s : Option Progress) (k : ℕ) (arcs : List Arc) (e : Refusal) → Begun s → with_arcs arcs (end_of s k) ≡ Err e → Where s k [] e
where_after None k arcs e b h =
    let q : Text (line_at 1 k) ≡ e = cc in
    subst (Where None k []) q (record { from = omega arith; to = omega arith; file_is = rw (one_line k) refl })
where_after (Some p) k arcs e b h =
    let q = fault_after (eqb p.done p.loaded.roads) arcs _ (Text (line_at p.loaded.files k)) e h in
    subst (Where (Some p) k []) q (record { from = omega arith; to = omega arith; file_is = rw (one_line k) (grind arith) })

where_here : (s : Option Progress) (k : ℕ) (l : List ℕ) (raw : List (List ℕ)) (f : Fault) → Where s k (l ∷ raw) (refused_at f (file_of s (said l)) k)
where_here s k l raw BadText =
    record { from = omega arith; to = omega arith; file_is = rw (one_line k) (ap (λ n. max 1 (files_of s + n)) (begins l ∙ omega arith)) }
where_here s k l raw OverQuota =
    record { from = omega arith; to = omega arith; file_is = rw (one_line k) (ap (λ n. max 1 (files_of s + n)) (begins l ∙ omega arith)) }

where_later : (s t : Option Progress) (k : ℕ) (l : List ℕ) (raw : List (List ℕ)) (e : Refusal) → files_of t ≡ files_of s + begun (said l) → Where t (k + 1) raw e → Where s k (l ∷ raw) e
where_later s t k l raw e c w =
    let n = (places e).line + 1 - (k + 1) in
    let z : (places e).line + 1 - k ≡ suc n = omega (arith, w.from) in
    let y : files_of t + begun_in (take n raw) ≡ files_of s + (cond (eqb (get_or l 0 0) 112) 1 0 + begun_in (take n raw)) = omega (arith, c, begins l) in
    record {
      from = omega (arith, w.from);
      to = omega (arith, w.to);
      file_is = rw z (w.file_is ∙ ap (max 1) y);
    }

where_is : (lim : Limits) (s : Option Progress) (arcs : List Arc) (k : ℕ) (raw : List (List ℕ)) (e : Refusal) → Begun s → judged lim s arcs k (map said raw) ≡ Err e → Where s k raw e
where_is lim s arcs k [] e b h = where_after s k arcs e b h
where_is lim s arcs k (l ∷ raw) e b h =
    let x = said l in
    elim (fault_here (file_of s x) k (step lim s (here_of s arcs) x) (λ t. judged lim t (arcs ++ arcs_in x) (k + 1) (map said raw)) e h) [
      | inl f ↦ subst (Where s k (l ∷ raw)) f.2 (where_here s k l raw f.0)
      | inr t ↦
          let c = counted lim s t.0 (here_of s arcs) x t.1 in
          where_later s t.0 k l raw e c.0 (where_is lim t.0 (arcs ++ arcs_in x) (k + 1) raw e (c.1 b) t.2)
    ]

pub names_line : NamesLine
names_line lim text e h =
    let w = where_is lim None [] 1 (lines text) e tt h in
    let line = (places e).line in
    let z : line + 1 - 1 ≡ line = omega arith in
    let y : 0 + begun_in (take line (lines text)) ≡ begun_in (take line (lines text)) = omega arith in
    record {
      counts = w.from;
      near = omega (arith, w.to);
      file_is = w.file_is ∙ ap (λ n. max 1 (0 + begun_in (take n (lines text)))) z ∙ ap (max 1) y;
    }

-- the same lines up to the fault
front_decides_from : (lim : Limits) (s : Option Progress) (arcs : List Arc) (k n : ℕ) (raw other : List (List ℕ)) (e : Refusal) → Begun s → judged lim s arcs k (map said raw) ≡ Err e → (places e).line < k + length raw → (places e).line ≡ k + n → take (suc n) other ≡ take (suc n) raw → judged lim s arcs k (map said other) ≡ Err e
front_decides_from lim s arcs k n [] other e b h l z q = absurd (omega arith)
front_decides_from lim s arcs k n (x ∷ raw) [] e b h l z q = absurd (cc)
front_decides_from lim s arcs k zero (x ∷ raw) (o ∷ other) e b h l z q =
    let same : x ≡ o = cc in
    let Same : List ℕ → Type 0 = λ y. judged lim s arcs k (map said (y ∷ other)) ≡ Err e in
    let go : List (List ℕ) → Option Progress → Result Read Refusal = λ ls t. judged lim t (arcs ++ arcs_in (said x)) (k + 1) (map said ls) in
    elim (fault_here (file_of s (said x)) k (step lim s (here_of s arcs) (said x)) (go raw) e h) [
      | inl f ↦ subst Same same (ap (λ r. or_refused (file_of s (said x)) k r (go other)) f.1 ∙ ap Err f.2)
      | inr t ↦
          let c = counted lim s t.0 (here_of s arcs) (said x) t.1 in
          let w = where_is lim t.0 (arcs ++ arcs_in (said x)) (k + 1) raw e (c.1 b) t.2 in
          let no : ⊥ = omega (arith, w.from) in
          elim no [ ]
    ]
front_decides_from lim s arcs k (suc n) (x ∷ raw) (o ∷ other) e b h l z q =
    let same : x ≡ o = cc in
    let rest : take (suc n) other ≡ take (suc n) raw = cc in
    let Same : List ℕ → Type 0 = λ y. judged lim s arcs k (map said (y ∷ other)) ≡ Err e in
    let go : List (List ℕ) → Option Progress → Result Read Refusal = λ ls t. judged lim t (arcs ++ arcs_in (said x)) (k + 1) (map said ls) in
    elim (fault_here (file_of s (said x)) k (step lim s (here_of s arcs) (said x)) (go raw) e h) [
      | inl f ↦ subst Same same (ap (λ r. or_refused (file_of s (said x)) k r (go other)) f.1 ∙ ap Err f.2)
      | inr t ↦
          let c = counted lim s t.0 (here_of s arcs) (said x) t.1 in
          subst Same same (ap (λ r. or_refused (file_of s (said x)) k r (go other)) t.1 ∙ front_decides_from lim t.0 (arcs ++ arcs_in (said x)) (k + 1) n raw other e (c.1 b) t.2 (omega arith) (omega arith) rest)
    ]

pub front_decides : FrontDecides
front_decides lim text other e h l q =
    let w = where_is lim None [] 1 (lines text) e tt h in
    let n = (places e).line - 1 in
    let z : (places e).line ≡ suc n = omega (arith, w.from) in
    front_decides_from lim None [] 1 n (lines text) (lines other) e tt h (omega arith) (omega arith) (subst (λ x. take x (lines other) ≡ take x (lines text)) z q)
