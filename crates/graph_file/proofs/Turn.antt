-- One line judged, and kept.
use Rattle.std.proofs.Common.{◌≡◌, ℕ, ◌+◌, ◌≤◌, Bool, true, false, cond, ◌&&◌, ◌||◌, eqb, ltb, List, [], ◌∷◌, ◌++◌, map, length, get_or, Option, Some, None, Ok, Err, Result, sym, refl, ap, ◌∙◌, subst, arith, MatchResult}
use Rattle.graph_file.proofs.Caps.{cap_unseen, capped_same}
use Rattle.graph_file.proofs.Keep.{at, kept_arc, kept_first, kept_next}
use Rattle.graph_file.proofs.Passing.{never, passed, passed_after, passed_twice}
use Rattle.graph_file.specs.Files.{arcs_in, done_of, end_of, file_of, files_in, here_of, judged, line_at, or_refused, refused_at, with_arcs}
use Rattle.graph_file.specs.Steps.{Sized, Within, arc_fits, next_arc, next_file, same_ends, step}
use Rattle.graph_file.specs.Gathering.{Fit, Gathered, Kept, Reading, Takes, points_after, roads_after, step_in}
use Rattle.graph_file.specs.declared.machine.Limits.{Limits}
use Rattle.graph_file.specs.declared.machine.Loaded.{Loaded}
use Rattle.curve.specs.declared.points.Point.{Point}
use Rattle.refusal.specs.declared.Refusal.{Refusal}
use Rattle.refusal.specs.declared.Refusal.TheVariants.{Text}
use Rattle.network.specs.Tables.{no_road}
use Rattle.network.specs.declared.tables.Road.{Road}
use Rattle.graph_file.specs.declared.machine.Progress.{Progress}
use Rattle.graph_file.specs.declared.machine.Fault.{Fault}
use Rattle.graph_file.specs.declared.machine.Fault.TheVariants.{BadText, OverQuota}
use Rattle.numeral.specs.Texts.{lines}
use Rattle.graph_line.specs.Statements.{capped, said, statements}
use Rattle.graph_line.specs.declared.Arc.{Arc}
use Rattle.graph_line.specs.declared.Statement.{Statement}
use Rattle.graph_line.specs.declared.Statement.TheVariants.{Comment, Problem, Crossing, BrokenProblem, Broken}
use Rattle.std.proofs.lemmas.List.{append-nil}
use Rattle.std.proofs.lemmas.Bool.Decides.{nat_tests}
use Rattle.std.proofs.lemmas.Bool.{and_parts, eqb-true, ltb-true}

-- an arc that fits is not too long
fits_light : (nodes : ℕ) (a : Arc) → arc_fits nodes a ≡ true → a.weight ≤ 10000
fits_light nodes a e = grind (arith, nat_tests)

-- a line without an arc
same_arcs : (s : Option Progress) (arcs : List Arc) (rs : List Road) (ps : List Point) → Kept s arcs rs ps → Kept s (arcs ++ []) rs ps
same_arcs s arcs rs ps kept = subst (λ xs. Kept s xs rs ps) (sym (append-nil arcs)) kept

-- what the tables keep after a line that was right
pub kept_line : (lim : Limits) (s t : Option Progress) (here : Road) (line : Statement) (arcs : List Arc) (rs : List Road) (ps : List Point) → Within lim s → Fit lim (length rs) (length ps) → Kept s arcs rs ps → step lim s here line ≡ Ok t → Kept t (arcs ++ arcs_in line) (roads_after s line rs) (points_after s line ps)
kept_line lim None t here Comment arcs rs ps w f kept e = let q : ◌≡◌ {A = Option Progress} None t = cc in subst (λ u. Kept u (arcs ++ []) rs ps) q (same_arcs None arcs rs ps kept)
kept_line lim None t here (Problem n m) arcs rs ps w f kept e =
    let q = passed_after (eqb n 0) _ (Some (at n m 1 0)) t OverQuota BadText e in
    subst (λ u. Kept u (arcs ++ []) rs ps) q.2 (same_arcs (Some (at n m 1 0)) arcs rs ps (kept_first n m arcs rs ps kept))
kept_line lim None t here (Crossing a) arcs rs ps w f kept e = never BadText t e
kept_line lim None t here BrokenProblem arcs rs ps w f kept e = never BadText t e
kept_line lim None t here Broken arcs rs ps w f kept e = never BadText t e
kept_line lim (Some p) t here Comment arcs rs ps w f kept e =
    let q : Some p ≡ t = cc in
    subst (λ u. Kept u (arcs ++ []) rs ps) q (same_arcs (Some p) arcs rs ps kept)
kept_line lim (Some p) t here (Problem n m) arcs rs ps w f kept e =
    let got = p.loaded in
    let q = passed_twice (eqb p.done got.roads && (eqb n got.nodes && eqb m got.roads)) _ (Some (next_file p)) t OverQuota BadText e in
    let d = eqb-true p.done got.roads (and_parts (eqb p.done got.roads) _ q.0).0 in
    subst (λ u. Kept u (arcs ++ []) rs ps) q.2 (same_arcs (Some (next_file p)) arcs rs ps (kept_next got.nodes got.roads got.files p.done arcs rs ps (w p refl).some d kept))
kept_line lim (Some p) t here (Crossing a) arcs rs ps w f kept e =
    let got = p.loaded in
    let s = w p refl in
    let q = passed (ltb p.done got.roads && (arc_fits got.nodes a && (eqb got.files 1 || same_ends here a))) (Some (next_arc p)) t BadText e in
    let o = and_parts (ltb p.done got.roads) _ q.0 in
    let d = ltb-true p.done got.roads o.0 in
    let y = (and_parts (arc_fits got.nodes a) _ o.1).0 in
    subst (λ u. Kept u (arcs ++ a ∷ []) (roads_after (Some p) (Crossing a) rs) (points_after (Some p) (Crossing a) ps)) q.1
    (kept_arc got.nodes got.roads got.files p.done arcs a rs ps s.some d (omega (arith, s.table, f.table)) (omega (arith, s.room, f.room)) (fits_light got.nodes a y) y kept)
kept_line lim (Some p) t here BrokenProblem arcs rs ps w f kept e = never BadText t e
kept_line lim (Some p) t here Broken arcs rs ps w f kept e = never BadText t e

-- one line judged
judge_line : (lim : Limits) (s : Option Progress) (here : Road) (arcs : List Arc) (k : ℕ) (bs front after : List ℕ) → lines bs ≡ front ∷ lines after → here ≡ here_of s arcs → judged lim s arcs k (statements bs) ≡ or_refused (file_of s (said front)) k (step lim s here (said front)) (λ t. judged lim t (arcs ++ arcs_in (said front)) (k + 1) (statements after))
judge_line lim s here arcs k bs front after e h =
    ap (judged lim s arcs k) (ap (map said) e)
    ∙ ap (λ x. or_refused (file_of s (said front)) k (step lim s x (said front)) (λ t. judged lim t (arcs ++ arcs_in (said front)) (k + 1) (statements after))) (sym h)

-- a broken line is counted to the same file as it is read
same_file : (s : Option Progress) (x : Statement) → file_of s (capped x) ≡ file_of s x
same_file s Comment = refl
same_file s (Problem n m) = refl
same_file s (Crossing a) = refl
same_file s BrokenProblem = refl
same_file s Broken = refl

-- a line that was wrong
pub refused_line : (lim : Limits) (s : Option Progress) (fault : Fault) (rs : List Road) (ps : List Point) (k : ℕ) (text rest front after : List ℕ) → Within lim s → Fit lim (length rs) (length ps) → lines rest ≡ front ∷ lines after → Reading lim text k rest s rs ps → step_in lim s rs (capped (said front)) ≡ Err fault → files_in lim text ≡ Err (refused_at fault (file_of s (capped (said front))) k)
refused_line lim s fault rs ps k text rest front after w f e reading o =
    let here = get_or rs (done_of s) no_road in
    let q : step lim s here (said front) ≡ Err fault = sym (cap_unseen lim s here (said front) f.nodes f.most w) ∙ o in
    sym reading.decides ∙ judge_line lim s here reading.arcs k rest front after e (reading.kept.ends (done_of s))
    ∙ ap (λ r. or_refused (file_of s (said front)) k r (λ t. judged lim t (reading.arcs ++ arcs_in (said front)) (k + 1) (statements after))) q
    ∙ ap (λ y. Err (refused_at fault y k)) (sym (same_file s (said front)))

-- the pass goes on after a line that was right
turn_exact : (lim : Limits) (s t : Option Progress) (x : Statement) (rs qs : List Road) (ps os : List Point) (k : ℕ) (text rest front after : List ℕ) → Within lim s → Fit lim (length rs) (length ps) → lines rest ≡ front ∷ lines after → x ≡ said front → Reading lim text k rest s rs ps → Takes lim x s t rs qs ps os → Reading lim text (k + 1) after t qs os
turn_exact lim s t x rs qs ps os k text rest front after w f e l reading takes =
    let arcs = reading.arcs in
    let here = get_or rs (done_of s) no_road in
    let n = kept_line lim s t here x arcs rs ps w f reading.kept takes.progress in
    let i =
    judge_line lim s here arcs k rest front after e (reading.kept.ends (done_of s))
    ∙ ap (λ y. or_refused (file_of s (said front)) k y (λ u. judged lim u (arcs ++ arcs_in (said front)) (k + 1) (statements after))) (ap (step lim s here) (sym l) ∙ takes.progress) in
    let m = subst (λ y. Kept t (arcs ++ arcs_in x) y (points_after s x ps)) (sym takes.roads) n in
    let v = subst (λ y. Kept t (arcs ++ arcs_in x) qs y) (sym takes.points) m in
    record { arcs = arcs ++ arcs_in (said front); kept = subst (λ y. Kept t (arcs ++ arcs_in y) qs os) l v; decides = sym i ∙ reading.decides }

pub turned : (lim : Limits) (s t : Option Progress) (rs qs : List Road) (ps os : List Point) (k : ℕ) (text rest front after : List ℕ) → Within lim s → Fit lim (length rs) (length ps) → lines rest ≡ front ∷ lines after → Reading lim text k rest s rs ps → Takes lim (capped (said front)) s t rs qs ps os → Reading lim text (k + 1) after t qs os
turned lim s t rs qs ps os k text rest front after w f e reading takes =
    turn_exact lim s t (capped (said front)) rs qs ps os k text rest front after w f e (capped_same lim s t (get_or rs (done_of s) no_road) (said front) f.nodes f.most w takes.progress) reading takes

-- the end of the last line
finish_file : (lim : Limits) (p : Progress) (k : ℕ) (arcs : List Arc) (rs : List Road) (ps : List Point) (text : List ℕ) (b : Bool) → eqb p.done p.loaded.roads ≡ b → Sized lim p → Kept (Some p) arcs rs ps → with_arcs arcs (cond b (Ok p.loaded) (Err (Text (line_at p.loaded.files k)))) ≡ files_in lim text → MatchResult (cond b (Ok p.loaded) (Err (Text (line_at p.loaded.files k)))) (λ got. Gathered lim text got rs ps) (λ e. files_in lim text ≡ Err e)
finish_file lim p k arcs rs ps text true q w kept j =
    record {
      arcs = arcs;
      said = sym j;
      sized = subst (λ d. Sized lim (record { loaded = p.loaded; done = d })) (eqb-true p.done p.loaded.roads q) w;
      kept = subst (λ d. Kept (Some (record { loaded = p.loaded; done = d })) arcs rs ps) (eqb-true p.done p.loaded.roads q) kept;
    }
finish_file lim p k arcs rs ps text false q w kept j = sym j

finish_state : (lim : Limits) (s : Option Progress) (k : ℕ) (arcs : List Arc) (rs : List Road) (ps : List Point) (text : List ℕ) → Within lim s → Kept s arcs rs ps → with_arcs arcs (end_of s k) ≡ files_in lim text → MatchResult (end_of s k) (λ got. Gathered lim text got rs ps) (λ e. files_in lim text ≡ Err e)
finish_state lim None k arcs rs ps text w kept j = sym j
finish_state lim (Some p) k arcs rs ps text w kept j = finish_file lim p k arcs rs ps text (eqb p.done p.loaded.roads) refl (w p refl) kept j

pub finished : (lim : Limits) (s : Option Progress) (k : ℕ) (rs : List Road) (ps : List Point) (text rest : List ℕ) (r : Result Loaded Refusal) → Within lim s → Reading lim text k rest s rs ps → lines rest ≡ [] → r ≡ end_of s k → MatchResult r (λ got. Gathered lim text got rs ps) (λ e. files_in lim text ≡ Err e)
finished lim s k rs ps text rest r w reading z e =
    let arcs = reading.arcs in
    subst (λ x. MatchResult x (λ got. Gathered lim text got rs ps) (λ e. files_in lim text ≡ Err e)) (sym e)
    (finish_state lim s k arcs rs ps text w reading.kept (sym (ap (λ x. judged lim s arcs k (map said x)) z) ∙ reading.decides))
