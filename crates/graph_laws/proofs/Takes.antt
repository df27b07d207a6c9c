-- Graph files are taken.
use Rattle.std.proofs.Common.{◌≡◌, ℕ, suc, ◌+◌, ◌*◌, ◌<◌, ◌≤◌, true, eqb, ◌⊎◌, List, [], ◌∷◌, ◌++◌, map, length, get_or, take, Option, Some, None, Ok, sym, refl, ap, ◌∙◌, subst, inl, inr, mul-le-mul_left, arith}
use Rattle.graph_laws.specs.Grammar.{AllRepeat, Repeats, TakesGraphFiles, file_lines, spoken}
use Rattle.graph_file.specs.Files.{arcs_in, end_of, ends_of, file_of, here_of, judged, no_arc, or_refused, with_arcs}
use Rattle.graph_file.specs.Steps.{arc_fits, step}
use Rattle.graph_file.specs.declared.machine.Limits.{Limits}
use Rattle.graph_file.specs.declared.machine.Progress.{Progress}
use Rattle.graph_file.proofs.Keep.{at}
use Rattle.network.specs.declared.tables.Road.{Road}
use Rattle.graph_line.specs.Statements.{statements}
use Rattle.graph_line.specs.declared.Arc.{Arc}
use Rattle.graph_line.specs.declared.Statement.{Statement}
use Rattle.graph_line.specs.declared.Statement.TheVariants.{Comment, Problem, Crossing, BrokenProblem, Broken}
use Rattle.std.proofs.lemmas.List.{append-nil, append_assoc, length-append, length_push, take_all, take-append-le}
use Rattle.std.proofs.lemmas.Bool.Decides.{nat_tests}
use Rattle.std.proofs.lemmas.Bool.{cond-true, eq-eqb}
use Rattle.std.specs.List.{flat_map}

-- a line that is right
one_line : (lim : Limits) (s t : Option Progress) (arcs : List Arc) (k : ℕ) (l : Statement) (ls : List Statement) → step lim s (here_of s arcs) l ≡ Ok t → judged lim s arcs k (l ∷ ls) ≡ judged lim t (arcs ++ arcs_in l) (k + 1) ls
one_line lim s t arcs k l ls e = ap (λ r. or_refused (file_of s l) k r (λ u. judged lim u (arcs ++ arcs_in l) (k + 1) ls)) e

comment_step : (lim : Limits) (s : Option Progress) (arcs : List Arc) → step lim s (here_of s arcs) Comment ≡ Ok s
comment_step lim None arcs = refl
comment_step lim (Some p) arcs = refl

after_comment : (lim : Limits) (s : Option Progress) (arcs : List Arc) (k : ℕ) (ls : List Statement) → judged lim s arcs k (Comment ∷ ls) ≡ judged lim s arcs (k + 1) ls
after_comment lim s arcs k ls = one_line lim s s arcs k Comment ls (comment_step lim s arcs) ∙ ap (λ xs. judged lim s xs (k + 1) ls) (append-nil arcs)

-- up to the next line that is no comment
Next : Limits → Option Progress → List Arc → ℕ → List Statement → Statement → List Statement → Type 0
Next lim s arcs k ls x more = (j : ℕ) × (rest : List Statement) × (judged lim s arcs k ls ≡ judged lim s arcs j (x ∷ rest)) × (spoken rest ≡ more)

next : (lim : Limits) (s : Option Progress) (arcs : List Arc) (k : ℕ) (ls : List Statement) (x : Statement) (more : List Statement) → spoken ls ≡ x ∷ more → Next lim s arcs k ls x more
unfolding Next
next lim s arcs k [] x more e = absurd (cc)
next lim s arcs k (Comment ∷ ls) x more e =
    let r = next lim s arcs (k + 1) ls x more e in
    (r.0, r.1, after_comment lim s arcs k ls ∙ r.2, r.3)
next lim s arcs k (Problem n m ∷ ls) x more e = let q : Problem n m ≡ x = cc in (k, ls, ap (λ y. judged lim s arcs k (y ∷ ls)) q, (cc))
next lim s arcs k (Crossing a ∷ ls) x more e = let q : Crossing a ≡ x = cc in (k, ls, ap (λ y. judged lim s arcs k (y ∷ ls)) q, (cc))
next lim s arcs k (BrokenProblem ∷ ls) x more e = let q : BrokenProblem ≡ x = cc in (k, ls, ap (λ y. judged lim s arcs k (y ∷ ls)) q, (cc))
next lim s arcs k (Broken ∷ ls) x more e = let q : Broken ≡ x = cc in (k, ls, ap (λ y. judged lim s arcs k (y ∷ ls)) q, (cc))

-- up to the end
last : (lim : Limits) (s : Option Progress) (arcs : List Arc) (k : ℕ) (ls : List Statement) → spoken ls ≡ [] → (j : ℕ) × (judged lim s arcs k ls ≡ with_arcs arcs (end_of s j))
last lim s arcs k [] e = (k, refl)
last lim s arcs k (Comment ∷ ls) e = let r = last lim s arcs (k + 1) ls e in (r.0, after_comment lim s arcs k ls ∙ r.1)
last lim s arcs k (Problem n m ∷ ls) e = absurd (cc)
last lim s arcs k (Crossing a ∷ ls) e = absurd (cc)
last lim s arcs k (BrokenProblem ∷ ls) e = absurd (cc)
last lim s arcs k (Broken ∷ ls) e = absurd (cc)

-- the first file, or a later one after the first
abbrev Again : ℕ → ℕ → List Arc → List Arc → Type 0
Again files roads arcs first = (files ≡ 1) ⊎ ((roads ≤ length arcs) × (take roads arcs ≡ first))

again_more : (files roads : ℕ) (arcs first : List Arc) (a : Arc) → Again files roads arcs first → Again files roads (arcs ++ a ∷ []) first
again_more files roads arcs first a (inl e) = inl e
again_more files roads arcs first a (inr q) = inr (omega (arith, length_push arcs a, q.0), take-append-le roads arcs (a ∷ []) q.0 ∙ q.1)

arc_step : (lim : Limits) (nodes roads files done : ℕ) (arcs first : List Arc) (a : Arc) → done < roads → arc_fits nodes a ≡ true → Again files roads arcs first → ends_of a ≡ ends_of (get_or first done no_arc) → step lim (Some (at nodes roads files done)) (here_of (Some (at nodes roads files done)) arcs) (Crossing a) ≡ Ok (Some (at nodes roads files (done + 1)))
arc_step lim nodes roads files done arcs first a l f again e =
    elim again [
      | inl q ↦ grind (arith, nat_tests)
      | inr q ↦
          let h = ap (λ xs. ends_of (get_or xs done no_arc)) q.1 in
          let t = ap (λ (x : Road). x.tail) (e ∙ sym h) in
          let d = ap (λ (x : Road). x.head) (e ∙ sym h) in
          grind (arith, nat_tests)
    ]

-- the arcs of a file
Taken : Limits → Option Progress → List Arc → ℕ → List Statement → Option Progress → List Arc → List Statement → Type 0
Taken lim s arcs k ls t brcs more = (j : ℕ) × (rest : List Statement) × (judged lim s arcs k ls ≡ judged lim t brcs j rest) × (spoken rest ≡ more)

arcs_taken : (lim : Limits) (nodes roads files done k : ℕ) (arcs first g : List Arc) (ls more : List Statement) → spoken ls ≡ map Crossing g ++ more → done + length g ≡ roads → Again files roads arcs first → ((j : ℕ) → j < length g → arc_fits nodes (get_or g j no_arc) ≡ true) → ((j : ℕ) → j < length g → ends_of (get_or g j no_arc) ≡ ends_of (get_or first (done + j) no_arc)) → Taken lim (Some (at nodes roads files done)) arcs k ls (Some (at nodes roads files roads)) (arcs ++ g) more
unfolding Taken Next
arcs_taken lim nodes roads files done k arcs first [] ls more e n again f h =
    let d : done ≡ roads = omega (arith, n) in
    (k, ls, ap (λ x. judged lim (Some (at nodes roads files x)) arcs k ls) d ∙ ap (λ xs. judged lim (Some (at nodes roads files roads)) xs k ls) (sym (append-nil arcs)), e)
arcs_taken lim nodes roads files done k arcs first (a ∷ g) ls more e n again f h =
    let r = next lim (Some (at nodes roads files done)) arcs k ls (Crossing a) (map Crossing g ++ more) e in
    let z : done + 0 ≡ done = omega arith in
    let o = arc_step lim nodes roads files done arcs first a (omega (arith, n)) (f 0 (omega arith)) again (h 0 (omega arith) ∙ ap (λ x. ends_of (get_or first x no_arc)) z) in
    let t = arcs_taken lim nodes roads files (done + 1) (r.0 + 1) (arcs ++ a ∷ []) first g r.1 more r.3 (omega (arith, n)) (again_more files roads arcs first a again) (λ j l. f (suc j) (omega arith))
    (λ j l. let y : done + suc j ≡ done + 1 + j = omega arith in h (suc j) (omega arith) ∙ ap (λ x. ends_of (get_or first x no_arc)) y) in
    (t.0, t.1, r.2 ∙ one_line lim (Some (at nodes roads files done)) (Some (at nodes roads files (done + 1))) arcs r.0 (Crossing a) r.1 o ∙ t.2 ∙ ap (λ xs. judged lim (Some (at nodes roads files roads)) xs t.0 t.1) (append_assoc arcs (a ∷ []) g), t.3)

-- a later p
size_step : (lim : Limits) (nodes roads files : ℕ) (arcs : List Arc) → files < 48 → roads * (files + 1) ≤ lim.points → step lim (Some (at nodes roads files roads)) (here_of (Some (at nodes roads files roads)) arcs) (Problem nodes roads) ≡ Ok (Some (at nodes roads (files + 1) 0))
size_step lim nodes roads files arcs f r = grind (arith, nat_tests)

-- the first p
open_step : (lim : Limits) (nodes roads : ℕ) → 1 ≤ nodes → nodes ≤ lim.nodes → roads ≤ lim.roads → roads ≤ lim.points → step lim None (here_of None []) (Problem nodes roads) ≡ Ok (Some (at nodes roads 1 0))
open_step lim nodes roads s n r p = grind (arith, nat_tests)

-- a file
file_taken : (lim : Limits) (nodes roads files k : ℕ) (arcs first f : List Arc) (ls more : List Statement) → spoken ls ≡ map Crossing f ++ more → Again files roads arcs first → Repeats nodes roads first f → Taken lim (Some (at nodes roads files 0)) arcs k ls (Some (at nodes roads files roads)) (arcs ++ f) more
file_taken lim nodes roads files k arcs first f ls more e again r =
    arcs_taken lim nodes roads files 0 k arcs first f ls more e (omega (arith, r.size)) again r.allowed
    (λ j l. let y : j ≡ 0 + j = omega arith in r.ends j l ∙ ap (λ x. ends_of (get_or first x no_arc)) y)

-- the files after the first
files_taken : (lim : Limits) (nodes roads files k : ℕ) (arcs first : List Arc) (fs : List (List Arc)) (ls : List Statement) → spoken ls ≡ flat_map (file_lines nodes roads) fs → files + length fs ≤ 48 → roads * (files + length fs) ≤ lim.points → roads ≤ length arcs → take roads arcs ≡ first → AllRepeat nodes roads first fs → (j : ℕ) × (judged lim (Some (at nodes roads files roads)) arcs k ls ≡ with_arcs (arcs ++ flat_map (λ f. f) fs) (end_of (Some (at nodes roads (files + length fs) roads)) j))
unfolding Taken Next
files_taken lim nodes roads files k arcs first [] ls e m p l t a =
    let r = last lim (Some (at nodes roads files roads)) arcs k ls e in
    let z : files ≡ files + 0 = omega arith in
    (r.0, r.1 ∙ ap (λ xs. with_arcs xs (end_of (Some (at nodes roads files roads)) r.0)) (sym (append-nil arcs)) ∙ ap (λ x. with_arcs (arcs ++ []) (end_of (Some (at nodes roads x roads)) r.0)) z)
files_taken lim nodes roads files k arcs first (f ∷ fs) ls e m p l t a =
    let rest = flat_map (file_lines nodes roads) fs in
    let r = next lim (Some (at nodes roads files roads)) arcs k ls (Problem nodes roads) (map Crossing f ++ rest) e in
    let n : files + 1 + length fs ≡ files + suc (length fs) = omega arith in
    let q : roads * (files + 1) ≤ roads * (files + suc (length fs)) = mul-le-mul_left roads (omega arith) in
    let o = size_step lim nodes roads files arcs (omega arith) (omega (arith, p)) in
    let s = one_line lim (Some (at nodes roads files roads)) (Some (at nodes roads (files + 1) 0)) arcs r.0 (Problem nodes roads) r.1 o ∙ ap (λ xs. judged lim (Some (at nodes roads (files + 1) 0)) xs (r.0 + 1) r.1) (append-nil arcs) in
    let u = file_taken lim nodes roads (files + 1) (r.0 + 1) arcs first f r.1 rest r.3 (inr (l, t)) a.0 in
    let v = files_taken lim nodes roads (files + 1) u.0 (arcs ++ f) first fs u.1 u.3 (omega (arith, m)) (subst (λ x. roads * x ≤ lim.points) (sym n) p) (omega (arith, length-append arcs f)) (take-append-le roads arcs f l ∙ t) a.1 in
    (v.0, r.2 ∙ s ∙ u.2 ∙ v.1 ∙ ap (λ xs. with_arcs xs (end_of (Some (at nodes roads (files + 1 + length fs) roads)) v.0)) (append_assoc arcs f (flat_map (λ x. x) fs)) ∙ ap (λ x. with_arcs (arcs ++ (f ++ flat_map (λ x. x) fs)) (end_of (Some (at nodes roads x roads)) v.0)) n)

pub takes_graph_files : TakesGraphFiles
unfolding Taken Next
takes_graph_files lim text got first more g =
    let nodes = got.nodes in
    let roads = got.roads in
    let rest = flat_map (file_lines nodes roads) more in
    let r = next lim None [] 1 (statements text) (Problem nodes roads) (map Crossing first ++ rest) g.consists in
    let q : roads * 1 ≤ roads * got.files = mul-le-mul_left roads (omega (arith, g.count)) in
    let o = open_step lim nodes roads g.some g.nodes_fit g.roads_fit (omega (arith, g.points_fit)) in
    let s = one_line lim None (Some (at nodes roads 1 0)) [] r.0 (Problem nodes roads) r.1 o in
    let u = file_taken lim nodes roads 1 (r.0 + 1) [] first first r.1 rest r.3 (inl refl) g.right.0 in
    let v = files_taken lim nodes roads 1 u.0 first first more u.1 u.3 (omega (arith, g.many, g.count)) (subst (λ x. roads * x ≤ lim.points) g.count g.points_fit) (omega (arith, g.right.0.size)) (take_all roads first (omega (arith, g.right.0.size))) g.right.1 in
    r.2 ∙ s ∙ u.2 ∙ v.1 ∙ ap (with_arcs (first ++ flat_map (λ f. f) more)) (ap (λ x. end_of (Some (at nodes roads x roads)) v.0) (sym g.count) ∙ cond-true (eqb roads roads) (Ok got) _ (eq-eqb roads roads refl))
