-- What a line may be after what came before, and what then has come.
use Rattle.std.specs.Prelude.{◌≡◌, ℕ, ◌+◌, ◌-◌, ◌*◌, ◌≤◌, Bool, cond, ◌&&◌, ◌||◌, Option, Some, None, Ok, Err, Result, ◌==◌, nat_le, nat_lt}
use Rattle.graph_file.specs.declared.machine.Fault.{Fault}
use Rattle.graph_file.specs.declared.machine.Fault.TheVariants.{BadText, OverQuota}
use Rattle.graph_file.specs.declared.machine.Limits.{Limits}
use Rattle.graph_file.specs.declared.machine.Progress.{Progress}
use Rattle.graph_line.specs.declared.Arc.{Arc}
use Rattle.graph_line.specs.declared.Statement.{Statement}
use Rattle.graph_line.specs.declared.Statement.TheVariants.{Comment, Problem, Crossing, BrokenProblem, Broken}
use Rattle.network.specs.declared.tables.Road.{Road}

-- the first p: some node, and no more than the limits
abbrev pub opening : Limits → ℕ → ℕ → Result (Option Progress) Fault
opening lim n m =
    cond (n == 0) (Err BadText)
    (cond (nat_le n lim.nodes && (nat_le m lim.roads && nat_le m lim.points)) (Ok (Some (record { loaded = record { nodes = n; roads = m; files = 1 }; done = 0 }))) (Err OverQuota))

-- one more file begun, and one more arc read
abbrev pub next_file : Progress → Progress
next_file p = record { loaded = record p.loaded { files = p.loaded.files + 1 }; done = 0 }

abbrev pub next_arc : Progress → Progress
next_arc p = record p { done = p.done + 1 }

-- a later p: all arcs are there, and the figures repeat; at most 48 files, and all their points within the limit
abbrev pub following : Limits → Progress → ℕ → ℕ → Result (Option Progress) Fault
following lim p n m =
    cond (p.done == p.loaded.roads && (n == p.loaded.nodes && m == p.loaded.roads))
    (cond (nat_lt p.loaded.files 48 && nat_le (p.loaded.roads * (p.loaded.files + 1)) lim.points) (Ok (Some (next_file p))) (Err OverQuota))
    (Err BadText)

-- ends among the nodes, a weight from 1 to 10,000
abbrev pub arc_fits : ℕ → Arc → Bool
arc_fits nodes a =
    nat_lt 0 a.tail && (nat_le a.tail nodes && (nat_lt 0 a.head && (nat_le a.head nodes && (nat_lt 0 a.weight && nat_le a.weight 10000))))

-- the road's ends, which count from 0
abbrev pub same_ends : Road → Arc → Bool
same_ends here a = a.tail - 1 == here.tail && a.head - 1 == here.head

-- an arc: one is missing, and it repeats the road that the first file has here
abbrev pub crossing : Progress → Road → Arc → Result (Option Progress) Fault
crossing p here a =
    cond (nat_lt p.done p.loaded.roads && (arc_fits p.loaded.nodes a && (p.loaded.files == 1 || same_ends here a))) (Ok (Some (next_arc p))) (Err BadText)

-- one p, then its arcs, then a new p; comments anywhere
abbrev pub step : Limits → Option Progress → Road → Statement → Result (Option Progress) Fault
step lim None here Comment = Ok None
step lim None here (Problem n m) = opening lim n m
step lim None here (Crossing a) = Err BadText
step lim None here BrokenProblem = Err BadText
step lim None here Broken = Err BadText
step lim (Some p) here Comment = Ok (Some p)
step lim (Some p) here (Problem n m) = following lim p n m
step lim (Some p) here (Crossing a) = crossing p here a
step lim (Some p) here BrokenProblem = Err BadText
step lim (Some p) here Broken = Err BadText

-- the figures so far keep to the limits
pub record Sized (lim : Limits) (p : Progress) : Type 0 where
  pub some : 1 ≤ p.loaded.files
  pub many : p.loaded.files ≤ 48
  pub one : 1 ≤ p.loaded.nodes
  pub ends : p.loaded.nodes ≤ 1024
  pub small : p.loaded.roads ≤ 4096
  pub table : p.loaded.roads ≤ lim.roads
  pub room : p.loaded.roads * p.loaded.files ≤ lim.points
  pub arcs : p.done ≤ p.loaded.roads

abbrev pub Within : Limits → Option Progress → Type 0
Within lim s = (p : Progress) → s ≡ Some p → Sized lim p
