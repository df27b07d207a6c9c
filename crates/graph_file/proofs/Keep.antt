-- The tables, one line on.
use Rattle.std.proofs.Common.{◌≡◌, ℕ, zero, suc, ◌+◌, ◌-◌, ◌*◌, ◌<◌, ◌≤◌, true, false, cond, eqb, List, [], ◌∷◌, ◌++◌, length, get_or, take, set, Some, None, sym, ap, ◌∙◌, arith}
use Rattle.curve.specs.Curve.{no_point}
use Rattle.curve.specs.declared.points.Point.{Point}
use Rattle.graph_file.specs.Files.{ends_of, no_arc}
use Rattle.graph_file.specs.Gathering.{Kept, weight_of}
use Rattle.graph_file.specs.Steps.{arc_fits}
use Rattle.graph_file.specs.declared.machine.Progress.{Progress}
use Rattle.graph_line.specs.declared.Arc.{Arc}
use Rattle.network.specs.Tables.{no_road}
use Rattle.network.specs.declared.tables.Road.{Road}
use Rattle.std.proofs.lemmas.Grind.{common_steps}
use Rattle.std.proofs.lemmas.List.{length_push, take_all, take-append-le}
use Rattle.std.proofs.lemmas.Bool.{ne_eqb}

-- the progress by its figures
abbrev pub at : ℕ → ℕ → ℕ → ℕ → Progress
at nodes roads files done = record { loaded = record { nodes = nodes; roads = roads; files = files }; done = done }

-- an arc that is no arc's place
push_other : (arcs : List Arc) (a : Arc) (k : ℕ) → (k ≡ length arcs → ⊥) → get_or (arcs ++ a ∷ []) k no_arc ≡ get_or arcs k no_arc
push_other arcs a k ne = grind (arith, common_steps)

-- one more arc, told in a table
pub told : {X : Type 0} (f : Arc → X) (z : X) (arcs : List Arc) (a : Arc) (table : List X) (n : ℕ) → n ≡ length arcs → n < length table → ((k : ℕ) → get_or table k z ≡ f (get_or arcs k no_arc)) → (k : ℕ) → get_or (set table n (f a)) k z ≡ f (get_or (arcs ++ a ∷ []) k no_arc)
told f z arcs a table n e l h k = grind (arith, common_steps, push_other)

-- the first file's arcs, with one more
first_more : (roads : ℕ) (arcs : List Arc) (a : Arc) → length arcs < roads → take roads (arcs ++ a ∷ []) ≡ arcs ++ a ∷ []
first_more roads arcs a l = take_all roads (arcs ++ a ∷ []) (omega (arith, length_push arcs a))

ends_more : (nodes roads files done : ℕ) (arcs : List Arc) (a : Arc) (table : List Road) → 1 ≤ files → done < roads → roads ≤ length table → length arcs ≡ (files - 1) * roads + done → ((k : ℕ) → get_or table k no_road ≡ ends_of (get_or (take roads arcs) k no_arc)) → (k : ℕ) → get_or (cond (eqb files 1) (set table done (ends_of a)) table) k no_road ≡ ends_of (get_or (take roads (arcs ++ a ∷ [])) k no_arc)
ends_more nodes roads zero done arcs a table s l t c h k = grind arith
ends_more nodes roads (suc zero) done arcs a table s l t c h k =
    let e : length arcs ≡ done = c ∙ omega arith in
    let m : length arcs < roads = omega arith in
    let q = take_all roads arcs (omega arith) in
    rw first_more (told ends_of no_road arcs a table done (sym e) (omega arith) (λ j. h j ∙ ap (λ xs. ends_of (get_or xs j no_arc)) q) k)
ends_more nodes roads (suc (suc g)) done arcs a table s l t c h k =
    let e : suc (suc g) - 1 ≡ suc g = omega arith in
    let p : suc g * roads ≡ g * roads + roads = omega arith in
    let m : roads ≤ length arcs = omega (arith, c, ap (λ x. x * roads) e) in
    let b : eqb (suc (suc g)) 1 ≡ false = ne_eqb (suc (suc g)) 1 (λ q. omega arith) in
    rw b (h k ∙ ap (λ xs. ends_of (get_or xs k no_arc)) (sym (take-append-le roads arcs (a ∷ []) m)))

light_more : (arcs : List Arc) (a : Arc) → a.weight ≤ 10000 → ((k : ℕ) → (get_or arcs k no_arc).weight ≤ 10000) → (k : ℕ) → (get_or (arcs ++ a ∷ []) k no_arc).weight ≤ 10000
light_more arcs a x h k = grind (arith, common_steps)

-- one more arc that is allowed
allowed_more : (nodes : ℕ) (arcs : List Arc) (a : Arc) → arc_fits nodes a ≡ true → ((k : ℕ) → k < length arcs → arc_fits nodes (get_or arcs k no_arc) ≡ true) → (k : ℕ) → k < length (arcs ++ a ∷ []) → arc_fits nodes (get_or (arcs ++ a ∷ []) k no_arc) ≡ true
allowed_more nodes arcs a x h k l = grind (arith, common_steps)

-- an arc
pub kept_arc : (nodes roads files done : ℕ) (arcs : List Arc) (a : Arc) (rs : List Road) (ps : List Point) → 1 ≤ files → done < roads → roads ≤ length rs → roads * files ≤ length ps → a.weight ≤ 10000 → arc_fits nodes a ≡ true → Kept (Some (at nodes roads files done)) arcs rs ps → Kept (Some (at nodes roads files (done + 1))) (arcs ++ a ∷ []) (cond (eqb files 1) (set rs done (ends_of a)) rs) (set ps ((files - 1) * roads + done) (weight_of a))
kept_arc nodes roads zero done arcs a rs ps s l t u x y kept = grind arith
kept_arc nodes roads (suc g) done arcs a rs ps s l t u x y kept =
    let e : suc g - 1 ≡ g = omega arith in
    let p : roads * suc g ≡ g * roads + roads = omega arith in
    let m : (suc g - 1) * roads + done < length ps = omega (arith, ap (λ x. x * roads) e) in
    record {
      count = length_push arcs a ∙ omega (arith, kept.count);
      ends = ends_more nodes roads (suc g) done arcs a rs s l t kept.count kept.ends;
      weights = told weight_of no_point arcs a ps ((suc g - 1) * roads + done) (sym kept.count) m kept.weights;
      light = light_more arcs a x kept.light;
      allowed = allowed_more nodes arcs a y kept.allowed;
    }

-- a p line
pub kept_first : (nodes roads : ℕ) (arcs : List Arc) (rs : List Road) (ps : List Point) → Kept None arcs rs ps → Kept (Some (at nodes roads 1 0)) arcs rs ps
kept_first nodes roads [] rs ps kept = record { count = omega arith; ends = λ k. kept.ends k ∙ ap (λ xs. ends_of (get_or xs k no_arc)) (sym (take_all {A = Arc} roads [] (omega arith))); weights = kept.weights; light = kept.light; allowed = λ k l. absurd (omega arith) }
kept_first nodes roads (a ∷ arcs) rs ps kept = absurd (omega (arith, kept.count))

pub kept_next : (nodes roads files done : ℕ) (arcs : List Arc) (rs : List Road) (ps : List Point) → 1 ≤ files → done ≡ roads → Kept (Some (at nodes roads files done)) arcs rs ps → Kept (Some (at nodes roads (files + 1) 0)) arcs rs ps
kept_next nodes roads zero done arcs rs ps s d kept = grind arith
kept_next nodes roads (suc g) done arcs rs ps s d kept =
    let e : suc g - 1 ≡ g = omega arith in
    let f : suc g + 1 - 1 ≡ g + 1 = omega arith in
    let p : (g + 1) * roads ≡ g * roads + roads = omega arith in
    record { count = kept.count ∙ rw (e, f) (omega arith); ends = kept.ends; weights = kept.weights; light = kept.light; allowed = kept.allowed }
