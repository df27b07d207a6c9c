-- Runs cut from a table.
use Rattle.std.proofs.Common.{◌≡◌, ℕ, ◌+◌, ◌-◌, List, take, drop, ap, arith}

-- a road's run, cut from its table by its first and last index
pub run_part : {A : Type 0} (table : List A) (first count : ℕ) → take (first + count - first) (drop first table) ≡ take count (drop first table)
run_part table first count = ap (λ (k : ℕ). take k (drop first table)) (omega arith)
