-- Graph files in their own words.
use Rattle.std.specs.Prelude.{◌≡◌, ℕ, ◌+◌, ◌*◌, ◌<◌, ◌≤◌, true, List, [], ◌∷◌, map, length, Ok, slice_index_or}
use Rattle.graph_file.specs.Files.{ends_of, files_in, no_arc}
use Rattle.graph_file.specs.Steps.{arc_fits}
use Rattle.graph_file.specs.declared.machine.Limits.{Limits}
use Rattle.graph_file.specs.declared.machine.Loaded.{Loaded}
use Rattle.graph_line.specs.Statements.{statements}
use Rattle.graph_line.specs.declared.Arc.{Arc}
use Rattle.graph_line.specs.declared.Statement.{Statement}
use Rattle.graph_line.specs.declared.Statement.TheVariants.{Comment, Problem, Crossing, BrokenProblem, Broken}
use Rattle.std.specs.List.{flat_map}

-- the lines that are no comments
abbrev pub spoken : List Statement → List Statement
spoken [] = []
spoken (Comment ∷ ls) = spoken ls
spoken (Problem n m ∷ ls) = Problem n m ∷ spoken ls
spoken (Crossing a ∷ ls) = Crossing a ∷ spoken ls
spoken (BrokenProblem ∷ ls) = BrokenProblem ∷ spoken ls
spoken (Broken ∷ ls) = Broken ∷ spoken ls

-- one p, then its arcs
abbrev pub file_lines : ℕ → ℕ → List Arc → List Statement
file_lines nodes roads f = Problem nodes roads ∷ map Crossing f

-- all arcs are there, are allowed, and have the ends of the first file's
pub record Repeats (nodes roads : ℕ) (first f : List Arc) : Type 0 where
  pub size : length f ≡ roads
  pub allowed : (j : ℕ) → j < length f → arc_fits nodes (slice_index_or f j no_arc) ≡ true
  pub ends : (j : ℕ) → j < length f → ends_of (slice_index_or f j no_arc) ≡ ends_of (slice_index_or first j no_arc)

abbrev pub AllRepeat : ℕ → ℕ → List Arc → List (List Arc) → Type 0
AllRepeat nodes roads first [] = Unit {0}
AllRepeat nodes roads first (f ∷ fs) = Repeats nodes roads first f × AllRepeat nodes roads first fs

-- all arcs of a file and of those after it
abbrev pub all_arcs : List Arc → List (List Arc) → List Arc
all_arcs first more = flat_map (λ f. f) (first ∷ more)

-- lines that are a file and more files, comments anywhere, within the limits
pub record GraphFiles (lim : Limits) (lines : List Statement) (got : Loaded) (first : List Arc) (more : List (List Arc)) : Type 0 where
  pub consists : spoken lines ≡ flat_map (file_lines got.nodes got.roads) (first ∷ more)
  pub count : got.files ≡ 1 + length more
  pub many : got.files ≤ 48
  pub some : 1 ≤ got.nodes
  pub nodes_fit : got.nodes ≤ lim.nodes
  pub roads_fit : got.roads ≤ lim.roads
  pub points_fit : got.roads * got.files ≤ lim.points
  pub right : AllRepeat got.nodes got.roads first (first ∷ more)

-- a text of graph files is taken, with all its arcs
abbrev pub TakesGraphFiles : Type 0
TakesGraphFiles =
    (lim : Limits) (text : List ℕ) (got : Loaded) (first : List Arc) (more : List (List Arc)) → GraphFiles lim (statements text) got first more → files_in lim text ≡ Ok (got, all_arcs first more)

-- and no other text is
abbrev pub TakesNothingElse : Type 0
TakesNothingElse =
    (lim : Limits) (text : List ℕ) (got : Loaded) (arcs : List Arc) → files_in lim text ≡ Ok (got, arcs) → (first : List Arc) × (more : List (List Arc)) × GraphFiles lim (statements text) got first more × (arcs ≡ all_arcs first more)
