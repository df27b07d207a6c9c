-- What was loaded keeps the rule of tabulated roads.
use Rattle.std.proofs.Common.{◌≡◌, ℕ, ◌+◌, ◌-◌, ◌*◌, ◌<◌, ◌≤◌, true, ltb, List, length, get_or, Some, None, Ok, Err, sym, ap, ◌∙◌, subst, mul-le-mul_right, arith}
use Rattle.curve.specs.declared.points.Point.{Point}
use Rattle.graph_file.proofs.Scan.{none_falls, none_found}
use Rattle.graph_file.proofs.Lay.{all_arcs}
use Rattle.graph_file.proofs.Whole.{loads, lowest_is, point_in, point_is}
use Rattle.graph_file.specs.Files.{no_arc}
use Rattle.graph_file.specs.Gathering.{Gathered, closed}
use Rattle.graph_file.specs.Loads.{Holds, arrival_of, load_of, lowest_overtaken, overtakes}
use Rattle.graph_file.specs.Placing.{Placed, falls_in, run_at}
use Rattle.graph_file.specs.Rules.{Laid, NetworkTables}
use Rattle.graph_file.specs.Steps.{Sized, arc_fits}
use Rattle.graph_file.specs.declared.machine.Limits.{Limits}
use Rattle.graph_file.specs.declared.machine.Loaded.{Loaded}
use Rattle.graph_line.specs.declared.Arc.{Arc}
use Rattle.network.specs.Tables.{KeepsRule, no_road, point_of}
use Rattle.network.specs.declared.tables.Road.{Road}
use Rattle.refusal.specs.declared.Refusal.TheVariants.{Table}
use Rattle.std.specs.List.{find, range_with_len}
use Rattle.std.proofs.lemmas.Bool.{cond-true, lt-ltb}
use Rattle.std.proofs.lemmas.Bool.Decides.{nat_tests}

-- the ends and the weight of an arc that fits
tail_fits : (nodes : ℕ) (a : Arc) → arc_fits nodes a ≡ true → a.tail - 1 < nodes
tail_fits nodes a e = grind (arith, nat_tests)

head_fits : (nodes : ℕ) (a : Arc) → arc_fits nodes a ≡ true → a.head - 1 < nodes
head_fits nodes a e = grind (arith, nat_tests)

weight_fits : (nodes : ℕ) (a : Arc) → arc_fits nodes a ≡ true → (1 ≤ a.weight) × (a.weight ≤ 10000)
weight_fits nodes a e = (grind (arith, nat_tests), grind (arith, nat_tests))

-- file i has its arc of road r among all arcs
arc_place : (roads files r i : ℕ) → r < roads → i < files → i * roads + r < roads * files
arc_place roads files r i l m = let n : (i + 1) * roads ≤ files * roads = mul-le-mul_right roads (omega arith) in omega arith

-- what is known of a text that was right, of its arcs and of its tables
pub record Right (lim : Limits) (spacing : ℕ) (got : Loaded) (arcs : List Arc) (table : List Road) (points : List Point) : Type 0 where
  pub apart : 1 ≤ spacing
  pub sized : Sized lim (closed got)
  pub placed : Placed got spacing (length table) (length points)
  pub count : length arcs ≡ got.roads * got.files
  pub allowed : (k : ℕ) → k < length arcs → arc_fits got.nodes (get_or arcs k no_arc) ≡ true
  pub orderly : lowest_overtaken spacing got arcs ≡ None
  pub holds : Holds spacing (Ok (got, arcs)) table points

abbrev run : Loaded → List Arc → ℕ → Road
run got arcs r = record { tail = (get_or arcs r no_arc).tail - 1; head = (get_or arcs r no_arc).head - 1; first = r * got.files; count = got.files }

arc_right : (lim : Limits) (spacing : ℕ) (got : Loaded) (arcs : List Arc) (table : List Road) (points : List Point) → Right lim spacing got arcs table points → (r i : ℕ) → r < got.roads → i < got.files → arc_fits got.nodes (get_or arcs (i * got.roads + r) no_arc) ≡ true
arc_right lim spacing got arcs table points right r i l m = right.allowed (i * got.roads + r) (omega (arith, right.count, arc_place got.roads got.files r i l m))

run_right : (lim : Limits) (spacing : ℕ) (got : Loaded) (arcs : List Arc) (table : List Road) (points : List Point) → Right lim spacing got arcs table points → (r : ℕ) → r < got.roads → KeepsRule got.nodes points (run got arcs r)
run_right lim spacing got arcs table points right r l =
    let f = got.files in
    let s : 1 ≤ f = right.sized.some in
    let zeroth : 0 * got.roads + r ≡ r = omega arith in
    let a = subst (λ k. arc_fits got.nodes (get_or arcs k no_arc) ≡ true) zeroth (arc_right lim spacing got arcs table points right r 0 l s) in
    let at : (i : ℕ) → i < f → point_of points (run got arcs r) i ≡ point_in spacing got.roads arcs r i = λ i m. point_is got spacing arcs table points right.holds r i l m in
    let weight : (i : ℕ) → i < f → (1 ≤ (get_or arcs (i * got.roads + r) no_arc).weight) × ((get_or arcs (i * got.roads + r) no_arc).weight ≤ 10000) =
    λ i m. weight_fits got.nodes (get_or arcs (i * got.roads + r) no_arc) (arc_right lim spacing got arcs table points right r i l m) in
    let calm = none_found (overtakes spacing got arcs) 0 got.roads right.orderly r (omega arith) (omega arith) in
    let ends : (r + 1) * f ≤ got.roads * f = mul-le-mul_right f (omega arith) in
    record {
      tail_below = tail_fits got.nodes (get_or arcs r no_arc) a;
      head_below = head_fits got.nodes (get_or arcs r no_arc) a;
      some = s;
      many = right.sized.many;
      inside = omega (arith, right.placed.room);
      begins = ap (λ p. p.departure) (at 0 s) ∙ omega arith;
      rises = λ i m.
          omega (arith, ap (λ p. p.departure) (at i (omega arith)), ap (λ p. p.departure) (at (i + 1) m), right.apart);
      early = λ i m.
          let w : i * spacing ≤ 48 * spacing = mul-le-mul_right spacing (omega (arith, right.sized.many)) in
          omega (arith, ap (λ p. p.departure) (at i m), right.placed.near);
      never_falls = λ i m.
          omega (arith, ap (λ p. p.arrival) (at i (omega arith)), ap (λ p. p.arrival) (at (i + 1) m), none_falls (arrival_of spacing got.roads arcs r) 0 (f - 1) calm i (omega arith) (omega arith));
      takes_time = λ i m. omega (arith, ap (λ p. p.departure) (at i m), ap (λ p. p.arrival) (at i m), (weight i m).0);
      not_long = λ i m. omega (arith, ap (λ p. p.departure) (at i m), ap (λ p. p.arrival) (at i m), (weight i m).1);
    }

pub keeps_rule : (lim : Limits) (spacing : ℕ) (got : Loaded) (arcs : List Arc) (table : List Road) (points : List Point) → Right lim spacing got arcs table points → NetworkTables got.nodes got.roads table points
keeps_rule lim spacing got arcs table points right =
    record {
      one_node = right.sized.one;
      most_nodes = right.sized.ends;
      most_roads = right.sized.small;
      roads_inside = right.placed.table;
      by_rule = λ r l.
          let e = right.holds.roads_are r ∙ cond-true (ltb r got.roads) (run got arcs r) no_road (lt-ltb r got.roads l) in
          subst (KeepsRule got.nodes points) (sym e) (run_right lim spacing got arcs table points right r l);
    }

-- what is answered where no road is overtaken, and where one is
pub laid_right : (lim : Limits) (spacing : ℕ) (text : List ℕ) (got : Loaded) (rs qs us : List Road) (ps os vs : List Point) (g : Gathered lim text got rs ps) → 1 ≤ spacing → Placed got spacing (length qs) (length os) → Holds spacing (Ok (got, g.arcs)) qs os → None ≡ find (λ r. falls_in (run_at os got.files r)) (range_with_len 0 got.roads) → us ≡ qs → vs ≡ os → Laid lim spacing text got us vs
laid_right lim spacing text got rs qs us ps os vs g apart placed holds none u v =
    let calm : None ≡ lowest_overtaken spacing got g.arcs = none ∙ lowest_is got spacing g.arcs qs os placed.some placed.room holds in
    let right : Right lim spacing got g.arcs qs os =
    record {
      apart = apart;
      sized = g.sized;
      placed = placed;
      count = all_arcs got g.arcs rs ps g.sized.some g.kept;
      allowed = g.kept.allowed;
      orderly = sym calm;
      holds = holds;
    } in
    rw (u, v) (record {
      arcs = g.arcs;
      said = loads lim spacing text got g.arcs None apart placed.near g.said calm;
      holds = holds;
      keeps = keeps_rule lim spacing got g.arcs qs os right;
    })

pub overtaken : (lim : Limits) (spacing : ℕ) (text : List ℕ) (got : Loaded) (road : ℕ) (rs qs : List Road) (ps os : List Point) (g : Gathered lim text got rs ps) → 1 ≤ spacing → Placed got spacing (length qs) (length os) → Holds spacing (Ok (got, g.arcs)) qs os → Some road ≡ find (λ r. falls_in (run_at os got.files r)) (range_with_len 0 got.roads) → load_of lim spacing text ≡ Err (Table (Some road))
overtaken lim spacing text got road rs qs ps os g apart placed holds one = loads lim spacing text got g.arcs (Some road) apart placed.near g.said (one ∙ lowest_is got spacing g.arcs qs os placed.some placed.room holds)
