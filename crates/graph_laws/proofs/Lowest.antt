-- What is loaded, and the road that is named.
use Rattle.std.proofs.Common.{◌≡◌, ℕ, ◌-◌, ◌<◌, Bool, true, false, cond, ◌&&◌, leb, List, Some, Option, None, Ok, Err, Result, sym, refl, subst, arith}
use Rattle.graph_file.proofs.Passing.{never}
use Rattle.graph_file.proofs.Scan.{falls_none, finds_none, found, none_falls, none_found, some_falls}
use Rattle.graph_file.proofs.Whole.{loads, point_is}
use Rattle.graph_file.specs.Files.{files_in}
use Rattle.graph_file.specs.Loads.{arrival_of, lowest_overtaken, overtakes, unless_found, unless_overtaken}
use Rattle.graph_file.specs.declared.machine.Loaded.{Loaded}
use Rattle.graph_laws.proofs.Front.{names_line}
use Rattle.graph_laws.proofs.Only.{takes_nothing_else}
use Rattle.graph_laws.proofs.Takes.{takes_graph_files}
use Rattle.graph_laws.specs.Grammar.{all_arcs}
use Rattle.graph_laws.specs.Overtaking.{LoadsGraphFiles, LoadsNothingElse, Lowest, NamesLowestRoad, Orderly, Overtaken, PointsInRoadOrder}
use Rattle.graph_line.specs.declared.Arc.{Arc}
use Rattle.refusal.specs.declared.Refusal.{Refusal}
use Rattle.refusal.specs.declared.Refusal.TheVariants.{Figures, Table}
use Rattle.std.proofs.lemmas.Bool.{and_parts, leb-true}

abbrev Read : Type 0
Read = Loaded × List Arc

-- a road's test, and what it says
orderly_from : (spacing : ℕ) (got : Loaded) (arcs : List Arc) (r : ℕ) → overtakes spacing got arcs r ≡ false → Orderly spacing got arcs r
orderly_from spacing got arcs r e i l = none_falls (arrival_of spacing got.roads arcs r) 0 (got.files - 1) e i (omega arith) (omega arith)

orderly_test : (spacing : ℕ) (got : Loaded) (arcs : List Arc) (r : ℕ) → Orderly spacing got arcs r → overtakes spacing got arcs r ≡ false
orderly_test spacing got arcs r h = falls_none (arrival_of spacing got.roads arcs r) 0 (got.files - 1) (λ j l m. h j (omega arith))

overtaken_from : (spacing : ℕ) (got : Loaded) (arcs : List Arc) (r : ℕ) → overtakes spacing got arcs r ≡ true → Overtaken spacing got arcs r
overtaken_from spacing got arcs r e =
    let f = some_falls (arrival_of spacing got.roads arcs r) 0 (got.files - 1) e in
    (f.0, omega (arith, f.2), f.3)

pub loads_graph_files : LoadsGraphFiles
loads_graph_files lim spacing text got first more h =
    let arcs = all_arcs first more in
    let n = finds_none (overtakes spacing got arcs) 0 got.roads (λ r l m. orderly_test spacing got arcs r (h.orderly r (omega arith))) in
    loads lim spacing text got arcs None h.apart h.near (takes_graph_files lim text got first more h.files) (sym n)

-- what an answer says of the minutes between the files
in_range : (b : Bool) (x : Result Read Refusal) (p : Read) → cond b x (Err Figures) ≡ Ok p → (b ≡ true) × (x ≡ Ok p)
in_range true x p e = (refl, e)
in_range false x p e = never Figures p e

-- and of the files
not_overtaken : (o : Option ℕ) (p q : Read) → unless_found p o ≡ Ok q → (o ≡ None) × (p ≡ q)
not_overtaken None p q h = (refl, (cc))
not_overtaken (Some r) p q h = never (Table (Some r)) q h

record Judged (spacing : ℕ) (x : Result Read Refusal) (p : Read) : Type 0 where
  right : x ≡ Ok p
  past : lowest_overtaken spacing p.0 p.1 ≡ None

judged_right : (spacing : ℕ) (x : Result Read Refusal) (p : Read) → unless_overtaken spacing x ≡ Ok p → Judged spacing x p
judged_right spacing (Ok q) p e =
    let h = not_overtaken (lowest_overtaken spacing q.0 q.1) q p e in
    subst (λ y. Judged spacing (Ok q) y) h.1 (record { right = refl; past = h.0 })
judged_right spacing (Err w) p e = never w p e

pub loads_nothing_else : LoadsNothingElse
loads_nothing_else lim spacing text got arcs e =
    let s = in_range (leb 1 spacing && leb spacing 2000) (unless_overtaken spacing (files_in lim text)) (got, arcs) e in
    let a = and_parts (leb 1 spacing) (leb spacing 2000) s.0 in
    let j = judged_right spacing (files_in lim text) (got, arcs) s.1 in
    let g = takes_nothing_else lim text got arcs j.right in
    let calm : (r : ℕ) → r < got.roads → Orderly spacing got arcs r =
    λ r l. orderly_from spacing got arcs r (none_found (overtakes spacing got arcs) 0 got.roads j.past r (omega arith) (omega arith)) in (
      g.0,
      g.1,
      record {
        apart = leb-true 1 spacing a.0;
        near = leb-true spacing 2000 a.1;
        files = g.2;
        orderly = subst (λ x. (r : ℕ) → r < got.roads → Orderly spacing got x r) g.3 calm;
      },
      g.3,
    )

-- a refusal that names a road comes from overtaking
named : (b : Bool) (x : Result Read Refusal) (r : ℕ) → cond b x (Err Figures) ≡ Err (Table (Some r)) → x ≡ Err (Table (Some r))
named true x r e = e
named false x r e = absurd (cc)

lowest_named : (o : Option ℕ) (r : ℕ) (p : Read) → unless_found p o ≡ Err (Table (Some r)) → o ≡ Some r
lowest_named None r p e = never (Table (Some r)) p (sym e)
lowest_named (Some n) r p e = cc

lowest_in : (spacing : ℕ) (x : Result Read Refusal) (r : ℕ) → (x ≡ Err (Table (Some r)) → ⊥) → unless_overtaken spacing x ≡ Err (Table (Some r)) → (got : Loaded) × (arcs : List Arc) × (x ≡ Ok (got, arcs)) × Lowest spacing got arcs r
lowest_in spacing (Err w) r h e = let no : ⊥ = h e in elim no [ ]
lowest_in spacing (Ok q) r h e =
    let got = q.0 in
    let arcs = q.1 in
    let t = overtakes spacing got arcs in
    let f = found t 0 got.roads r (lowest_named (lowest_overtaken spacing got arcs) r q e) in (
      got,
      arcs,
      refl,
      record {
        below = omega (arith, f.below);
        overtaken = overtaken_from spacing got arcs r f.passes;
        lower = λ q m. orderly_from spacing got arcs q (f.lower q (omega arith) m);
      },
    )

pub names_lowest_road : NamesLowestRoad
names_lowest_road lim spacing text r e =
    lowest_in spacing (files_in lim text) r
    (λ f. let p = names_line lim text (Table (Some r)) f in omega (arith, p.counts))
    (named (leb 1 spacing && leb spacing 2000) (unless_overtaken spacing (files_in lim text)) r e)

pub points_in_road_order : PointsInRoadOrder
points_in_road_order spacing got arcs roads points holds r i l m = point_is got spacing arcs roads points holds r i l m
