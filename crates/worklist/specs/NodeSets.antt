-- What a set of nodes means.
use Rattle.std.specs.Prelude.{◌≡◌, ℕ, ◌<◌, ◌≤◌, Bool, true, false, cond, count_by, replicate, slice_index_or, slice_set, refl}
use Rattle.std.proofs.Common.{arith}
use Rattle.worklist.specs.declared.nodes.NodeSet.{NodeSet}

-- the nodes of the set lie below this
abbrev pub bound_of : NodeSet → ℕ
bound_of s = s.bound

abbrev pub has : NodeSet → ℕ → Bool
has s v = slice_index_or s.marks v false

-- how many nodes it has
abbrev pub size : NodeSet → ℕ
size s = count_by (λ mark. mark) s.marks

abbrev pub IsEmpty : NodeSet → Type 0
IsEmpty s = s.marks ≡ replicate 1024 false

-- t has v or not, as `on` says, and otherwise the nodes of s
pub record SetsMark (s : NodeSet) (v : ℕ) (on : Bool) (t : NodeSet) : Type 0 where
  pub bound : bound_of t ≡ bound_of s
  pub marks : t.marks ≡ slice_set s.marks v on

-- a bag or line in which v stands `times v` times has each node of the set once, and no other
abbrev pub EachOnce : NodeSet → (ℕ → ℕ) → Type 0
EachOnce s times = (v : ℕ) → times v ≡ cond (has s v) 1 0

pub at_most_once : (s : NodeSet) (times : ℕ → ℕ) → EachOnce s times → (v : ℕ) → times v ≤ 1
at_most_once s times once v = go (has s v) (once v)
  where
    go : (b : Bool) → times v ≡ cond b 1 0 → times v ≤ 1
    go true e = omega arith
    go false e = omega arith

pub below_bound : (s : NodeSet) (times : ℕ → ℕ) → EachOnce s times → (v : ℕ) → 0 < times v → v < bound_of s
below_bound s times once v some = go (has s v) refl (once v)
  where
    go : (b : Bool) → has s v ≡ b → times v ≡ cond b 1 0 → v < bound_of s
    go true on e = s.below v on
    go false off e = absurd (omega arith)
