-- What a put and a take do to a list first in, first out.
use Rattle.std.proofs.Common.{◌≡◌, ℕ, zero, suc, ◌+◌, ◌%◌, ◌<◌, Bool, true, false, cond, List, [], ◌∷◌, ◌++◌, get_or, set, refl, sym, ap, ◌∙◌, arith}
use Rattle.std.proofs.lemmas.Bool.{lt-ltb, le-ltb, both_ways}
use Rattle.worklist.specs.declared.nodes.NodeSet.{NodeSet}
use Rattle.worklist.specs.declared.fifo.Fifo.{Fifo}
use Rattle.worklist.specs.Work.{Idle}
use Rattle.worklist.specs.NodeSets.{bound_of, has, size, SetsMark, EachOnce}
use Rattle.worklist.specs.Lines.{times, among, around, times_push_same, times_push_other, times_cons_same, times_cons_other}
use Rattle.worklist.specs.Fifos.{waiting, waits, fifo_work}
use Rattle.worklist.proofs.Rings.{around_none, around_put, around_take}
use Rattle.worklist.proofs.Marking as marking

-- v is put, which did not wait; t are the nodes that wait then
module _ (l : Fifo) (v : ℕ) (t : NodeSet) (off : has l.nodes v ≡ false) (low : v < bound_of l.nodes) (puts : SetsMark l.nodes v true t) where
  pub put_size : size t ≡ l.count + 1
  put_size = marking.put_size l.nodes t v off low puts ∙ ap (λ n. n + 1) l.tally

  pub put_room : l.count < 1024
  put_room = omega (arith, marking.put_room l.nodes t v off low puts, l.tally)

  line : around (set l.ring ((l.first + l.count) % 1024) v) l.first (l.count + 1) ≡ waiting l ++ v ∷ []
  line = around_put l.ring l.first l.count v l.sizes.1 put_room

  pub put_line : around (set l.ring ((l.first + l.count) % 1024) v) l.first (l.count + 1) ≡ cond (waits l v) (waiting l) (waiting l ++ v ∷ [])
  put_line =
      let none = marking.put_none l.nodes v (λ x. times x (waiting l)) l.once off in
      line ∙ ap (λ (b : Bool). cond b (waiting l) (waiting l ++ v ∷ [])) (sym (le-ltb 0 (times v (waiting l)) (omega (arith, none))))

  pub put_once : EachOnce t (λ x. times x (around (set l.ring ((l.first + l.count) % 1024) v) l.first (l.count + 1)))
  put_once = marking.put_once l.nodes t v off low puts _ _ l.once
      (ap (times v) line ∙ times_push_same (waiting l) v)
      (λ x ne. ap (times x) line ∙ times_push_other (waiting l) v x ne)

-- the line after its oldest
abbrev later : Fifo → ℕ → List ℕ
later l rest = around l.ring ((l.first + 1) % 1024) rest

abbrev oldest : Fifo → ℕ
oldest l = get_or l.ring l.first 0

module _ (l : Fifo) (rest : ℕ) (one : rest + 1 ≡ l.count) where
  pub take_line : waiting l ≡ oldest l ∷ later l rest
  take_line = around_take l.ring l.first l.count rest l.sizes.0 one

  own : times (oldest l) (waiting l) ≡ 1 + times (oldest l) (later l rest)
  own = ap (times (oldest l)) take_line ∙ times_cons_same (later l rest) (oldest l)

  others : (x : ℕ) → (x ≡ oldest l → ⊥) → times x (later l rest) ≡ times x (waiting l)
  others x ne = sym (ap (times x) take_line ∙ times_cons_other (later l rest) (oldest l) x ne)

  pub take_below : oldest l < bound_of l.nodes
  take_below = marking.take_below l.nodes (oldest l) _ (λ x. times x (later l rest)) l.once own

  pub take_size : (t : NodeSet) → SetsMark l.nodes (oldest l) false t → size t ≡ rest
  take_size t takes = omega (arith, marking.take_size l.nodes t (oldest l) _ (λ x. times x (later l rest)) l.once own takes, l.tally)

  pub take_once : (t : NodeSet) → SetsMark l.nodes (oldest l) false t → EachOnce t (λ x. times x (later l rest))
  take_once t takes = marking.take_once l.nodes t (oldest l) _ _ l.once own takes others

  pub take_waits : waits l (oldest l) ≡ true
  take_waits = lt-ltb 0 (times (oldest l) (waiting l)) (omega (arith, own))

-- the count and the line are empty together
pub none_left : (l : Fifo) → l.count ≡ 0 → waiting l ≡ []
none_left l none = ap (around l.ring l.first) none ∙ around_none l.ring l.first

pub none_waits : (l : Fifo) → l.count ≡ 0 → Idle fifo_work l
none_waits l none v = ap (among v) (none_left l none)

pub none_counts : (l : Fifo) → Idle fifo_work l → l.count ≡ 0
none_counts l idle = go l.count refl
  where
    go : (n : ℕ) → l.count ≡ n → l.count ≡ 0
    go zero e = e
    go (suc rest) e = absurd (both_ways (waits l (oldest l)) (idle (oldest l)) (take_waits l rest (omega arith)))
