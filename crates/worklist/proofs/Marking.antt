-- A set of nodes goes with the line or bag that has each of its nodes once, as a node is put or taken.
use Rattle.std.proofs.Common.{◌≡◌, ℕ, ◌+◌, ◌<◌, Bool, true, false, cond, List, length, get_or, set, replicate, sym, refl, ap, ◌∙◌, ⊎_elim, arith}
use Rattle.std.specs.Prelude.{count_by}
use Rattle.std.proofs.lemmas.List.{length-replicate, get_or-set_same, get_or-set_other, get_or-replicate, get_or_past}
use Rattle.std.proofs.lemmas.List.Sums.{sum_by-set, count_by-le-length}
use Rattle.std.proofs.lemmas.Bool.{cases_eq, cases_lt}
use Rattle.worklist.specs.declared.nodes.NodeSet.{NodeSet}
use Rattle.worklist.specs.NodeSets.{bound_of, has, size, IsEmpty, SetsMark, EachOnce}

-- 1 for a mark, else 0
abbrev bit : Bool → ℕ
bit b = cond b 1 0

-- what is counted is marked
on_from_count : (b : Bool) (n : ℕ) → 0 < n → n ≡ bit b → b ≡ true
on_from_count true n some e = refl
on_from_count false n some e = absurd (omega arith)

pub unmarked : (v : ℕ) → get_or (replicate 1024 false) v false ≡ false
unmarked v = ⊎_elim (get_or-replicate 1024 v false false) (λ past. get_or_past (replicate 1024 false) v false (simp length-replicate past)) (cases_lt v 1024)

-- the empty set has no node, and nothing stands in an empty line
pub nothing_once : (s : NodeSet) → IsEmpty s → EachOnce s (λ _. 0)
nothing_once s none = λ v. sym (ap (λ (ms : List Bool). bit (get_or ms v false)) none ∙ ap bit (unmarked v))

pub size_none : (s : NodeSet) → IsEmpty s → size s ≡ 0
size_none s none = ap (count_by (λ (mark : Bool). mark)) none

module _ (s t : NodeSet) (v : ℕ) (on : Bool) (low : v < bound_of s) (sets : SetsMark s v on t) where
  place : v < length s.marks
  place = omega (arith, s.in_range, s.long)

  -- v counts as it is marked now
  sized : size t + bit (has s v) ≡ size s + bit on
  sized = ap (λ (ms : List Bool). count_by (λ (mark : Bool). mark) ms + bit (has s v)) sets.marks ∙ sum_by-set bit s.marks v on false place

  -- v stands in the line as it is marked now, and all others as before
  once_more : (times times' : ℕ → ℕ) → EachOnce s times → times' v ≡ bit on → ((x : ℕ) → (x ≡ v → ⊥) → times' x ≡ times x) → EachOnce t times'
  once_more times times' once own others = λ x.
      let now = λ (ms : List Bool). bit (get_or ms x false) in
      sym (ap now sets.marks ∙ ⊎_elim
      (λ (e : x ≡ v). ap (λ y. bit (get_or (set s.marks v on) y false)) e ∙ ap bit (get_or-set_same s.marks v on false place) ∙ sym own ∙ sym (ap times' e))
      (λ (ne : x ≡ v → ⊥). ap bit (get_or-set_other s.marks v x on false ne) ∙ sym (once x) ∙ sym (others x ne))
      (cases_eq x v))

-- v is put, which was not in the set
pub put_none : (s : NodeSet) (v : ℕ) (times : ℕ → ℕ) → EachOnce s times → has s v ≡ false → times v ≡ 0
put_none s v times once off = once v ∙ ap bit off

module _ (s t : NodeSet) (v : ℕ) (off : has s v ≡ false) (low : v < bound_of s) (puts : SetsMark s v true t) where
  pub put_size : size t ≡ size s + 1
  put_size = omega (arith, sized s t v true low puts, ap bit off)

  pub put_room : size s < 1024
  put_room = omega (arith, count_by-le-length (λ (mark : Bool). mark) t.marks, t.long, put_size)

  pub put_once : (times times' : ℕ → ℕ) → EachOnce s times → times' v ≡ times v + 1 → ((x : ℕ) → (x ≡ v → ⊥) → times' x ≡ times x) → EachOnce t times'
  put_once times times' once own others = once_more s t v true low puts times times' once (own ∙ ap (λ n. n + 1) (put_none s v times once off)) others

-- v is taken, which stood once more before
module _ (s : NodeSet) (v : ℕ) (times times' : ℕ → ℕ) (once : EachOnce s times) (own : times v ≡ 1 + times' v) where
  on : has s v ≡ true
  on = on_from_count (has s v) (times v) (omega arith) (once v)

  pub take_below : v < bound_of s
  take_below = s.below v on

  pub take_none : times' v ≡ 0
  take_none = omega (arith, once v, ap bit on)

module _ (s t : NodeSet) (v : ℕ) (times times' : ℕ → ℕ) (once : EachOnce s times) (own : times v ≡ 1 + times' v) (takes : SetsMark s v false t) where
  pub take_size : size t + 1 ≡ size s
  take_size = omega (arith, sized s t v false (take_below s v times times' once own) takes, ap bit (on s v times times' once own))

  pub take_once : ((x : ℕ) → (x ≡ v → ⊥) → times' x ≡ times x) → EachOnce t times'
  take_once others = once_more s t v false (take_below s v times times' once own) takes times times' once (take_none s v times times' once own) others
