-- First in, first out.
use Rattle.std.specs.Prelude.{◌≡◌, ℕ, ◌<◌, ◌≤◌, Bool, true, false, cond, List, [], ◌∷◌, ◌++◌, Some, None, Option, ◌≢◌, nat_lt, refl}
use Rattle.std.proofs.Common.{sym, ap, ◌∙◌, arith}
use Rattle.std.proofs.lemmas.Bool.{lt-ltb, le-ltb, ltb-true}
use Rattle.worklist.specs.declared.fifo.Fifo.{Fifo}
use Rattle.worklist.specs.Work.{Work, Orderly}
use Rattle.worklist.specs.NodeSets as sets
use Rattle.worklist.specs.NodeSets.{bound_of, at_most_once}
use Rattle.worklist.specs.Lines.{times, among, around, times_push_same, times_push_other, times_cons_same, times_cons_other}

abbrev pub limit : Fifo → ℕ
limit l = bound_of l.nodes

-- the waiting nodes, the oldest first
abbrev pub waiting : Fifo → List ℕ
waiting l = around l.ring l.first l.count

abbrev pub waits : Fifo → ℕ → Bool
waits l v = among v (waiting l)

-- a node that does not wait yet goes to the end
pub record Puts (l : Fifo) (v key : ℕ) (m : Fifo) : Type 0 where
  pub bound : limit m ≡ limit l
  pub line : waiting m ≡ cond (waits l v) (waiting l) (waiting l ++ v ∷ [])

-- the oldest is taken
abbrev pub Takes : Fifo → Option ℕ → Fifo → Type 0
Takes l None m = (waiting l ≡ []) × (m ≡ l)
Takes l (Some v) m = (limit m ≡ limit l) × (waiting l ≡ v ∷ waiting m)

abbrev pub Clears : Fifo → ℕ → Fifo → Type 0
Clears l n m = (limit m ≡ n) × (waiting m ≡ [])

abbrev pub fifo_work : Work Fifo
fifo_work = record { waits = waits; puts = Puts; takes = Takes; clears = Clears }

put_adds : (l m : Fifo) (v key : ℕ) → Puts l v key m → waits m v ≡ true
put_adds l m v key p = go (waits l v) refl p.line
  where
    go : (b : Bool) → waits l v ≡ b → waiting m ≡ cond b (waiting l) (waiting l ++ v ∷ []) → waits m v ≡ true
    go true e q = ap (among v) q ∙ e
    go false e q = ap (among v) q ∙ lt-ltb 0 (times v (waiting l ++ v ∷ [])) (omega (arith, times_push_same (waiting l) v))

put_keeps : (l m : Fifo) (v key : ℕ) → Puts l v key m → (x : ℕ) → (x ≢ v) → waits m x ≡ waits l x
put_keeps l m v key p x ne = go (waits l v) p.line
  where
    go : (b : Bool) → waiting m ≡ cond b (waiting l) (waiting l ++ v ∷ []) → waits m x ≡ waits l x
    go true q = ap (among x) q
    go false q = ap (among x) q ∙ ap (nat_lt 0) (times_push_other (waiting l) v x ne)

take_removes : (l m : Fifo) (v : ℕ) → Takes l (Some v) m → waits m v ≡ false
take_removes l m v p = le-ltb 0 (times v (waiting m)) (omega (arith, at_most_once l.nodes _ l.once v, times_cons_same (waiting m) v, ap (times v) p.1))

pub fifo_orderly : Orderly fifo_work
fifo_orderly = record {
  put_adds = put_adds;
  put_keeps = put_keeps;
  take_waits = λ l m v p. lt-ltb 0 (times v (waiting l)) (omega (arith, times_cons_same (waiting m) v, ap (times v) p.1));
  take_removes = take_removes;
  take_keeps = λ l m v p x ne. ap (nat_lt 0) (sym (ap (times x) p.1 ∙ times_cons_other (waiting m) v x ne));
  take_none = λ l m p x. ap (among x) p.0;
  take_none_keeps = λ l m p. p.1;
  clear_empties = λ l m n p x. ap (among x) p.1;
}

pub below_bound : (l : Fifo) (v : ℕ) → waits l v ≡ true → v < limit l
below_bound l v e = sets.below_bound l.nodes _ l.once v (ltb-true 0 (times v (waiting l)) e)

pub in_range : (l : Fifo) → (1 ≤ limit l) × (limit l ≤ 1024)
in_range l = l.nodes.in_range

pub put_bound : (l m : Fifo) (v key : ℕ) → Puts l v key m → limit m ≡ limit l
put_bound l m v key p = p.bound

pub take_bound : (l m : Fifo) (a : Option ℕ) → Takes l a m → limit m ≡ limit l
take_bound l m None p = ap limit p.1
take_bound l m (Some v) p = p.0

pub clear_bound : (l m : Fifo) (n : ℕ) → Clears l n m → limit m ≡ n
clear_bound l m n p = p.0
