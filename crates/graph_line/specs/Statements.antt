-- What a line of a graph file says.
use Rattle.std.specs.Prelude.{ℕ, min, cond, ◌&&◌, List, [], ◌∷◌, map, Some, None, codes, Option, ◌==◌}
use Rattle.graph_line.specs.declared.Arc.{Arc}
use Rattle.graph_line.specs.declared.Statement.{Statement}
use Rattle.graph_line.specs.declared.Statement.TheVariants.{Comment, Problem, Crossing, BrokenProblem, Broken}
use Rattle.numeral.specs.Decimals.{number_in}
use Rattle.numeral.specs.Texts.{cut, lines}
use Rattle.std.specs.Str.{bytes_eq}

-- go on where there is something
abbrev pub onward : {A B : Type 0} → Option A → (A → Option B) → Option B
onward None f = None
onward (Some x) f = f x

-- the words between the first three spaces, 32, of a line, and what stands after them
abbrev pub words : List ℕ → Option (List ℕ × List ℕ × List ℕ × List ℕ)
words line = onward (cut 32 line) (λ a. onward (cut 32 a.1) (λ b. onward (cut 32 b.1) (λ c. Some (a.0, b.0, c.0, c.1))))

-- p sp NODES ROADS, with its numbers by a reader of numbers
abbrev pub problem_by : (List ℕ → Option ℕ) → List ℕ → Option (ℕ × ℕ)
problem_by read line =
    onward (words line) (λ w.
    cond (bytes_eq w.0 (codes "p") && bytes_eq w.1 (codes "sp")) (onward (read w.2) (λ n. onward (read w.3) (λ m. Some (n, m)))) None)

-- a TAIL HEAD WEIGHT
abbrev pub arc_by : (List ℕ → Option ℕ) → List ℕ → Option Arc
arc_by read line =
    onward (words line) (λ w.
    cond (bytes_eq w.0 (codes "a"))
    (onward (read w.1) (λ t. onward (read w.2) (λ h. onward (read w.3) (λ x. Some (record { tail = t; head = h; weight = x }))))) None)

abbrev pub problem_or_broken : Option (ℕ × ℕ) → Statement
problem_or_broken None = BrokenProblem
problem_or_broken (Some p) = Problem p.0 p.1

abbrev pub crossing_or_broken : Option Arc → Statement
crossing_or_broken None = Broken
crossing_or_broken (Some a) = Crossing a

-- a line is told by its first character: c is 99, p is 112, a is 97
abbrev pub said_by : (List ℕ → Option ℕ) → List ℕ → Statement
said_by read [] = Broken
said_by read (b ∷ bs) =
    cond (b == 99) Comment (cond (b == 112) (problem_or_broken (problem_by read (b ∷ bs))) (cond (b == 97) (crossing_or_broken (arc_by read (b ∷ bs))) Broken))

-- what a line says, its numbers of any length
abbrev pub said : List ℕ → Statement
said line = said_by number_in line

-- what the lines of a text say
abbrev pub statements : List ℕ → List Statement
statements text = map said (lines text)

-- a statement whose numbers from 10,001 on stand as that: every limit is lower
abbrev pub capped : Statement → Statement
capped Comment = Comment
capped (Problem n m) = Problem (min 10001 n) (min 10001 m)
capped (Crossing a) = Crossing (record { tail = min 10001 a.tail; head = min 10001 a.head; weight = min 10001 a.weight })
capped BrokenProblem = BrokenProblem
capped Broken = Broken
