-- The whole load.
use Rattle.std.proofs.Common.{◌≡◌, ℕ, zero, suc, ◌+◌, ◌-◌, ◌*◌, ◌/◌, ◌%◌, ◌<◌, ◌≤◌, true, ◌&&◌, ltb, leb, List, length, drop, get_or, Option, Ok, Err, sym, refl, ap, ◌∙◌, mul-le-mul_right, mod-eq_of_lt, arith}
use Rattle.graph_file.specs.Files.{files_in}
use Rattle.graph_file.specs.Loads.{Holds, arrival_of, falls_from, load_of, lowest_overtaken, overtakes, unless_found, unless_overtaken}
use Rattle.graph_file.specs.Placing.{falls_in, run_at}
use Rattle.graph_file.proofs.Scan.{finds_same}
use Rattle.std.specs.List.{find, range_with_len}
use Rattle.graph_file.specs.declared.machine.Limits.{Limits}
use Rattle.graph_file.specs.declared.machine.Loaded.{Loaded}
use Rattle.curve.specs.Curve.{no_point}
use Rattle.curve.specs.declared.points.Point.{Point}
use Rattle.refusal.specs.declared.Refusal.TheVariants.{Figures}
use Rattle.network.specs.declared.tables.Road.{Road}
use Rattle.graph_line.specs.declared.Arc.{Arc}
use Rattle.std.proofs.lemmas.List.{get_or-drop, get_or-take, length-drop, length-take-le}
use Rattle.std.proofs.lemmas.Bool.{and_from, cond-true, le-leb, lt-ltb}
use native.Mathlib.Nat.{mul-add-div_right, mul-add-mod_self_right, div-eq_of_lt}

falls_same : (a b : ℕ → ℕ) (i n : ℕ) → ((j : ℕ) → i ≤ j → j ≤ i + n → a j ≡ b j) → falls_from a i n ≡ falls_from b i n
falls_same a b i zero h = refl
falls_same a b i (suc n) h =
    let x = h i (omega arith) (omega arith) in
    let y = h (i + 1) (omega arith) (omega arith) in
    let r = falls_same a b (i + 1) n (λ j l m. h j (omega arith) (omega arith)) in
    simp (x, y, r)

-- a place's road and file
pub road_of : (files r i : ℕ) → i < files → (r * files + i) / files ≡ r
road_of files r i l = mul-add-div_right {m = files} (omega arith) r i ∙ ap (λ x. r + x) (div-eq_of_lt l) ∙ omega arith

pub file_of : (files r i : ℕ) → i < files → (r * files + i) % files ≡ i
file_of files r i l = mul-add-mod_self_right r files i ∙ mod-eq_of_lt l

-- road r has its point of file i at r × files + i
abbrev pub point_in : ℕ → ℕ → List Arc → ℕ → ℕ → Point
point_in spacing roads arcs r i = record { departure = i * spacing; arrival = arrival_of spacing roads arcs r i }

pub point_is : (got : Loaded) (spacing : ℕ) (arcs : List Arc) (rs : List Road) (ps : List Point) → Holds spacing (Ok (got, arcs)) rs ps → (r i : ℕ) → r < got.roads → i < got.files → get_or ps (r * got.files + i) no_point ≡ point_in spacing got.roads arcs r i
point_is got spacing arcs rs ps holds r i l m =
    let f = got.files in
    let n : (r + 1) * f ≤ got.roads * f = mul-le-mul_right f (omega arith) in
    let b : ltb (r * f + i) (got.roads * f) ≡ true = lt-ltb (r * f + i) (got.roads * f) (omega arith) in
    holds.points_are (r * f + i) ∙ cond-true (ltb (r * f + i) (got.roads * f)) _ no_point b
    ∙ ap (λ x. point_in spacing got.roads arcs x ((r * f + i) % f)) (road_of f r i m) ∙ ap (point_in spacing got.roads arcs r) (file_of f r i m)

-- the scan of a road's run is that of its arcs
run_falls : (got : Loaded) (spacing : ℕ) (arcs : List Arc) (rs : List Road) (ps : List Point) → 1 ≤ got.files → got.roads * got.files ≤ length ps → Holds spacing (Ok (got, arcs)) rs ps → (r : ℕ) → r < got.roads → falls_in (run_at ps got.files r) ≡ overtakes spacing got arcs r
run_falls got spacing arcs rs ps s room holds r l =
    let n : (r + 1) * got.files ≤ got.roads * got.files = mul-le-mul_right got.files (omega arith) in
    let f = got.files in
    let at : (i : ℕ) → i < f → get_or (run_at ps f r) i no_point ≡ point_in spacing got.roads arcs r i = λ i m.
    let b : i < r * f + f - r * f = omega arith in
    get_or-take (r * f + f - r * f) (drop (r * f) ps) i no_point b ∙ get_or-drop (r * f) ps i no_point ∙ point_is got spacing arcs rs ps holds r i l m in
    let size : length (run_at ps f r) ≡ f = length-take-le (r * f + f - r * f) (drop (r * f) ps) (omega (arith, length-drop (r * f) ps)) ∙ omega arith in
    rw size (falls_same (λ i. (get_or (run_at ps f r) i no_point).arrival) (arrival_of spacing got.roads arcs r) 0 (f - 1) (λ i n o. ap (λ x. x.arrival) (at i (omega arith))))

-- the scan of the table is that of the arcs
pub lowest_is : (got : Loaded) (spacing : ℕ) (arcs : List Arc) (rs : List Road) (ps : List Point) → 1 ≤ got.files → got.roads * got.files ≤ length ps → Holds spacing (Ok (got, arcs)) rs ps → find (λ r. falls_in (run_at ps got.files r)) (range_with_len 0 got.roads) ≡ lowest_overtaken spacing got arcs
lowest_is got spacing arcs rs ps s room holds = finds_same _ _ 0 got.roads (λ r l m. run_falls got spacing arcs rs ps s room holds r (omega arith))

-- the end, with and without overtaking
pub loads : (lim : Limits) (spacing : ℕ) (text : List ℕ) (got : Loaded) (arcs : List Arc) (o : Option ℕ) → 1 ≤ spacing → spacing ≤ 2000 → files_in lim text ≡ Ok (got, arcs) → o ≡ lowest_overtaken spacing got arcs → load_of lim spacing text ≡ unless_found (got, arcs) o
loads lim spacing text got arcs o s t e l =
    cond-true (leb 1 spacing && leb spacing 2000) (unless_overtaken spacing (files_in lim text)) (Err Figures) (and_from (leb 1 spacing) (leb spacing 2000) (le-leb 1 spacing s) (le-leb spacing 2000 t))
    ∙ ap (unless_overtaken spacing) e ∙ ap (unless_found (got, arcs)) (sym l)
