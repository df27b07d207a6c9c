-- Numbers read up to 10,001.
use Rattle.std.proofs.Common.{◌≡◌, ℕ, min, Bool, true, false, cond, ◌&&◌, eqb, List, [], ◌∷◌, Some, None, codes, Option, refl}
use Rattle.graph_line.specs.Statements.{arc_by, capped, crossing_or_broken, onward, problem_by, problem_or_broken, said, said_by, words}
use Rattle.graph_line.specs.declared.Arc.{Arc}
use Rattle.graph_line.specs.declared.Statement.TheVariants.{Comment, Broken}
use Rattle.numeral.specs.Decimals.{number_in, number_of, numeral, read_up_to}
use Rattle.std.specs.Option.{option_map}
use Rattle.std.specs.Str.{bytes_eq}

abbrev cap : ℕ → ℕ
cap n = min 10001 n

abbrev Words : Type 0
Words = List ℕ × List ℕ × List ℕ × List ℕ

read_capped : (ds : List ℕ) → read_up_to 10001 ds ≡ option_map cap (number_in ds)
read_capped ds =
    let Reads : Bool → Type 0 = λ b. cond b (Some (cap (number_of ds))) None ≡ option_map cap (cond b (Some (number_of ds)) None) in
    elim (numeral ds) as Reads [ true ↦ refl | false ↦ refl ]

-- the numbers of a problem line
pair_capped : (o p : Option ℕ) → problem_or_broken (onward (option_map cap o) (λ n. onward (option_map cap p) (λ m. Some (n, m)))) ≡ capped (problem_or_broken (onward o (λ n. onward p (λ m. Some (n, m)))))
pair_capped None p = refl
pair_capped (Some n) None = refl
pair_capped (Some n) (Some m) = refl

abbrev pair : (List ℕ → Option ℕ) → Words → Option (ℕ × ℕ)
pair read w = cond (bytes_eq w.0 (codes "p") && bytes_eq w.1 (codes "sp")) (onward (read w.2) (λ n. onward (read w.3) (λ m. Some (n, m)))) None

problem_capped : (o : Option Words) → problem_or_broken (onward o (pair (read_up_to 10001))) ≡ capped (problem_or_broken (onward o (pair number_in)))
problem_capped None = refl
problem_capped (Some w) =
    let Right : Bool → Type 0 =
    λ b. problem_or_broken (cond b (onward (read_up_to 10001 w.2) (λ n. onward (read_up_to 10001 w.3) (λ m. Some (n, m)))) None) ≡ capped (problem_or_broken (cond b (onward (number_in w.2) (λ n. onward (number_in w.3) (λ m. Some (n, m)))) None)) in
    elim (bytes_eq w.0 (codes "p") && bytes_eq w.1 (codes "sp")) as Right [
      | true ↦ rw (read_capped w.2, read_capped w.3) (pair_capped (number_in w.2) (number_in w.3))
      | false ↦ refl
    ]

-- the numbers of an arc
abbrev arc : ℕ → ℕ → ℕ → Option Arc
arc t h x = Some (record { tail = t; head = h; weight = x })

triple_capped : (o p q : Option ℕ) → crossing_or_broken (onward (option_map cap o) (λ t. onward (option_map cap p) (λ h. onward (option_map cap q) (λ x. arc t h x)))) ≡ capped (crossing_or_broken (onward o (λ t. onward p (λ h. onward q (λ x. arc t h x)))))
triple_capped None p q = refl
triple_capped (Some t) None q = refl
triple_capped (Some t) (Some h) None = refl
triple_capped (Some t) (Some h) (Some x) = refl

abbrev triple : (List ℕ → Option ℕ) → Words → Option Arc
triple read w = cond (bytes_eq w.0 (codes "a")) (onward (read w.1) (λ t. onward (read w.2) (λ h. onward (read w.3) (λ x. arc t h x)))) None

arc_capped : (o : Option Words) → crossing_or_broken (onward o (triple (read_up_to 10001))) ≡ capped (crossing_or_broken (onward o (triple number_in)))
arc_capped None = refl
arc_capped (Some w) =
    let Right : Bool → Type 0 =
    λ b. crossing_or_broken (cond b (onward (read_up_to 10001 w.1) (λ t. onward (read_up_to 10001 w.2) (λ h. onward (read_up_to 10001 w.3) (λ x. arc t h x)))) None) ≡ capped (crossing_or_broken (cond b (onward (number_in w.1) (λ t. onward (number_in w.2) (λ h. onward (number_in w.3) (λ x. arc t h x)))) None)) in
    elim (bytes_eq w.0 (codes "a")) as Right [
      | true ↦ rw (read_capped w.1, read_capped w.2, read_capped w.3) (triple_capped (number_in w.1) (number_in w.2) (number_in w.3))
      | false ↦ refl
    ]

-- which line it is
kind_capped : (comment problem crossing : Bool) (line : List ℕ) → cond comment Comment (cond problem (problem_or_broken (problem_by (read_up_to 10001) line)) (cond crossing (crossing_or_broken (arc_by (read_up_to 10001) line)) Broken)) ≡ capped (cond comment Comment (cond problem (problem_or_broken (problem_by number_in line)) (cond crossing (crossing_or_broken (arc_by number_in line)) Broken)))
kind_capped true problem crossing line = refl
kind_capped false true crossing line = problem_capped (words line)
kind_capped false false true line = arc_capped (words line)
kind_capped false false false line = refl

pub said_capped : (line : List ℕ) → said_by (read_up_to 10001) line ≡ capped (said line)
said_capped [] = refl
said_capped (b ∷ bs) = kind_capped (eqb b 99) (eqb b 112) (eqb b 97) (b ∷ bs)
