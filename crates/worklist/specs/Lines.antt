-- Nodes in a line, kept in a ring of 1,024 places. Assumes nothing.
use Rattle.std.specs.Prelude.{◌≡◌, ℕ, ◌+◌, ◌%◌, Bool, cond, List, [], ◌∷◌, ◌++◌, map, count_by, ◌==◌, ◌≢◌, nat_eq, nat_lt, slice_index, refl}
use Rattle.std.proofs.Common.{ap, ◌∙◌, arith}
use Rattle.std.specs.List.{range_with_len}
use Rattle.std.proofs.lemmas.Bool.{eq-eqb, ne_eqb}
use Rattle.std.proofs.lemmas.List.Sums.{sum_by-cons, sum_by_push}

-- how often v stands in a line
abbrev pub times : ℕ → List ℕ → ℕ
times v line = count_by (nat_eq v) line

abbrev pub among : ℕ → List ℕ → Bool
among v line = nat_lt 0 (times v line)

-- count nodes, from the place first on; the place after the last is the first
unfoldable pub around : List ℕ → ℕ → ℕ → List ℕ
around ring first count = map (λ i. slice_index ring ((first + i) % 1024)) (range_with_len 0 count)

-- ---- how often a node stands in a line that is one longer
pub times_push_same : (line : List ℕ) (v : ℕ) → times v (line ++ v ∷ []) ≡ times v line + 1
times_push_same line v = sum_by_push (λ x. cond (v == x) 1 0) line v ∙ ap {B = ℕ} (λ (b : Bool). times v line + cond b 1 0) (eq-eqb v v refl)

pub times_push_other : (line : List ℕ) (v x : ℕ) → (x ≢ v) → times x (line ++ v ∷ []) ≡ times x line
times_push_other line v x ne = sum_by_push (λ y. cond (x == y) 1 0) line v ∙ ap {B = ℕ} (λ (b : Bool). times x line + cond b 1 0) (ne_eqb x v ne) ∙ omega arith

pub times_cons_same : (line : List ℕ) (v : ℕ) → times v (v ∷ line) ≡ 1 + times v line
times_cons_same line v = sum_by-cons (λ x. cond (v == x) 1 0) v line ∙ ap {B = ℕ} (λ (b : Bool). cond b 1 0 + times v line) (eq-eqb v v refl)

pub times_cons_other : (line : List ℕ) (v x : ℕ) → (x ≢ v) → times x (v ∷ line) ≡ times x line
times_cons_other line v x ne = sum_by-cons (λ y. cond (x == y) 1 0) v line ∙ ap {B = ℕ} (λ (b : Bool). cond b 1 0 + times x line) (ne_eqb x v ne) ∙ omega arith
