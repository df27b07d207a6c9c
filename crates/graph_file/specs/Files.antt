-- The files of a text: its lines judged from the front, up to the first fault.
use Rattle.std.specs.Prelude.{ℕ, ◌+◌, ◌-◌, max, cond, List, [], ◌∷◌, ◌++◌, take, Ok, Err, Option, Some, None, Result, ◌==◌, slice_index_or}
use Rattle.graph_file.specs.Steps.{step}
use Rattle.graph_file.specs.declared.machine.Fault.{Fault}
use Rattle.graph_file.specs.declared.machine.Fault.TheVariants.{BadText, OverQuota}
use Rattle.graph_file.specs.declared.machine.Limits.{Limits}
use Rattle.graph_file.specs.declared.machine.Loaded.{Loaded}
use Rattle.graph_file.specs.declared.machine.Progress.{Progress}
use Rattle.graph_line.specs.Statements.{statements}
use Rattle.graph_line.specs.declared.Arc.{Arc}
use Rattle.graph_line.specs.declared.Statement.{Statement}
use Rattle.graph_line.specs.declared.Statement.TheVariants.{Comment, Problem, Crossing, BrokenProblem, Broken}
use Rattle.network.specs.declared.tables.Road.{Road}
use Rattle.refusal.specs.declared.Line.{Line}
use Rattle.refusal.specs.declared.Refusal.{Refusal}
use Rattle.refusal.specs.declared.Refusal.TheVariants.{Text, Quota}

-- what stands where no arc does
abbrev pub no_arc : Arc
no_arc = record { tail = 0; head = 0; weight = 0 }

-- a road's ends, counted from 0
abbrev pub ends_of : Arc → Road
ends_of a = record { tail = a.tail - 1; head = a.head - 1; first = 0; count = 0 }

-- how many files have begun, and how many arcs of the last are there
abbrev pub files_of : Option Progress → ℕ
files_of None = 0
files_of (Some p) = p.loaded.files

abbrev pub done_of : Option Progress → ℕ
done_of None = 0
done_of (Some p) = p.done

-- a line that begins with p begins a file, broken or not
abbrev pub begun : Statement → ℕ
begun Comment = 0
begun (Problem n m) = 1
begun (Crossing a) = 0
begun BrokenProblem = 1
begun Broken = 0

-- a line's file
abbrev pub file_of : Option Progress → Statement → ℕ
file_of s said = max 1 (files_of s + begun said)

abbrev pub arcs_in : Statement → List Arc
arcs_in Comment = []
arcs_in (Problem n m) = []
arcs_in (Crossing a) = a ∷ []
arcs_in BrokenProblem = []
arcs_in Broken = []

-- the arcs of the first file, among all arcs so far
abbrev pub first_file : Option Progress → List Arc → List Arc
first_file None arcs = arcs
first_file (Some p) arcs = take p.loaded.roads arcs

-- the ends that the first file has at the place of the next arc
abbrev pub here_of : Option Progress → List Arc → Road
here_of s arcs = ends_of (slice_index_or (first_file s arcs) (done_of s) no_arc)

abbrev pub line_at : ℕ → ℕ → Line
line_at file line = record { file = file; line = line }

abbrev pub refused_at : Fault → ℕ → ℕ → Refusal
refused_at BadText file line = Text (line_at file line)
refused_at OverQuota file line = Quota (line_at file line)

-- go on where the line was right
abbrev pub or_refused : {A : Type 0} → ℕ → ℕ → Result (Option Progress) Fault → (Option Progress → Result A Refusal) → Result A Refusal
or_refused file line (Ok s) go = go s
or_refused file line (Err fault) go = Err (refused_at fault file line)

-- after the last line: missing lines count as one past it
abbrev pub end_of : Option Progress → ℕ → Result Loaded Refusal
end_of None line = Err (Text (line_at 1 line))
end_of (Some p) line = cond (p.done == p.loaded.roads) (Ok p.loaded) (Err (Text (line_at p.loaded.files line)))

abbrev pub with_arcs : List Arc → Result Loaded Refusal → Result (Loaded × List Arc) Refusal
with_arcs arcs (Ok got) = Ok (got, arcs)
with_arcs arcs (Err e) = Err e

-- the lines from a number on: what they give, and all arcs in order, or the first fault
abbrev pub judged : Limits → Option Progress → List Arc → ℕ → List Statement → Result (Loaded × List Arc) Refusal
judged lim s arcs line [] = with_arcs arcs (end_of s line)
judged lim s arcs line (l ∷ ls) =
    or_refused (file_of s l) line (step lim s (here_of s arcs) l)
    (λ t. judged lim t (arcs ++ arcs_in l) (line + 1) ls)

-- what the files of a text give
abbrev pub files_in : Limits → List ℕ → Result (Loaded × List Arc) Refusal
files_in lim text = judged lim None [] 1 (statements text)
