-- No rule sees that numbers are read up to 10,001.
use Rattle.std.proofs.Common.{◌≡◌, ℕ, ◌≤◌, min, Option, Some, None, Ok, refl, arith}
use Rattle.graph_file.proofs.Passing.{never}
use Rattle.graph_line.specs.Statements.{capped}
use Rattle.graph_file.specs.Steps.{Sized, Within, crossing, following, opening, step}
use Rattle.graph_file.specs.declared.machine.Limits.{Limits}
use Rattle.network.specs.declared.tables.Road.{Road}
use Rattle.graph_file.specs.declared.machine.Progress.{Progress}
use Rattle.graph_file.specs.declared.machine.Fault.TheVariants.{BadText}
use Rattle.graph_line.specs.declared.Arc.{Arc}
use Rattle.graph_line.specs.declared.Statement.{Statement}
use Rattle.graph_line.specs.declared.Statement.TheVariants.{Comment, Problem, Crossing, BrokenProblem, Broken}
use Rattle.std.proofs.lemmas.Bool.Decides.{nat_tests}

cap_opening : (lim : Limits) (n m : ℕ) → lim.nodes ≤ 1024 → lim.roads ≤ 4096 → opening lim (min 10001 n) (min 10001 m) ≡ opening lim n m
cap_opening lim n m u v = grind (arith, nat_tests)

cap_following : (lim : Limits) (p : Progress) (n m : ℕ) → Sized lim p → following lim p (min 10001 n) (min 10001 m) ≡ following lim p n m
cap_following lim p n m w = grind (arith, nat_tests)

abbrev arc : ℕ → ℕ → ℕ → Arc
arc t h w = record { tail = t; head = h; weight = w }

cap_crossing : (p : Progress) (here : Road) (t h w : ℕ) → p.loaded.nodes ≤ 1024 → crossing p here (arc (min 10001 t) (min 10001 h) (min 10001 w)) ≡ crossing p here (arc t h w)
cap_crossing p here t h w u = grind (arith, nat_tests)

-- no step sees it
pub cap_unseen : (lim : Limits) (s : Option Progress) (here : Road) (said : Statement) → lim.nodes ≤ 1024 → lim.roads ≤ 4096 → Within lim s → step lim s here (capped said) ≡ step lim s here said
cap_unseen lim None here Comment u v w = refl
cap_unseen lim None here (Problem n m) u v w = cap_opening lim n m u v
cap_unseen lim None here (Crossing a) u v w = refl
cap_unseen lim None here BrokenProblem u v w = refl
cap_unseen lim None here Broken u v w = refl
cap_unseen lim (Some p) here Comment u v w = refl
cap_unseen lim (Some p) here (Problem n m) u v w = cap_following lim p n m (w p refl)
cap_unseen lim (Some p) here (Crossing a) u v w = cap_crossing p here a.tail a.head a.weight (w p refl).ends
cap_unseen lim (Some p) here BrokenProblem u v w = refl
cap_unseen lim (Some p) here Broken u v w = refl

-- what is taken is read as it stands
kept_opening : (lim : Limits) (n m : ℕ) (t : Option Progress) → lim.nodes ≤ 1024 → lim.roads ≤ 4096 → opening lim (min 10001 n) (min 10001 m) ≡ Ok t → (min 10001 n ≡ n) × (min 10001 m ≡ m)
kept_opening lim n m t u v e = (grind (arith, nat_tests), grind (arith, nat_tests))

kept_following : (lim : Limits) (p : Progress) (n m : ℕ) (t : Option Progress) → Sized lim p → following lim p (min 10001 n) (min 10001 m) ≡ Ok t → (min 10001 n ≡ n) × (min 10001 m ≡ m)
kept_following lim p n m t w e = (grind (arith, nat_tests), grind (arith, nat_tests))

kept_crossing : (p : Progress) (here : Road) (a : Arc) (t : Option Progress) → p.loaded.nodes ≤ 1024 → crossing p here (arc (min 10001 a.tail) (min 10001 a.head) (min 10001 a.weight)) ≡ Ok t → (min 10001 a.tail ≡ a.tail) × (min 10001 a.head ≡ a.head) × (min 10001 a.weight ≡ a.weight)
kept_crossing p here a t u e = (grind (arith, nat_tests), grind (arith, nat_tests), grind (arith, nat_tests))

pub capped_same : (lim : Limits) (s t : Option Progress) (here : Road) (said : Statement) → lim.nodes ≤ 1024 → lim.roads ≤ 4096 → Within lim s → step lim s here (capped said) ≡ Ok t → capped said ≡ said
capped_same lim None t here Comment u v w e = refl
capped_same lim None t here (Problem n m) u v w e = let q = kept_opening lim n m t u v e in simp (q.0, q.1)
capped_same lim None t here (Crossing a) u v w e = never BadText t e
capped_same lim None t here BrokenProblem u v w e = refl
capped_same lim None t here Broken u v w e = refl
capped_same lim (Some p) t here Comment u v w e = refl
capped_same lim (Some p) t here (Problem n m) u v w e = let q = kept_following lim p n m t (w p refl) e in simp (q.0, q.1)
capped_same lim (Some p) t here (Crossing a) u v w e = let q = kept_crossing p here a t (w p refl).ends e in simp (q.0, q.1, q.2)
capped_same lim (Some p) t here BrokenProblem u v w e = refl
capped_same lim (Some p) t here Broken u v w e = refl
