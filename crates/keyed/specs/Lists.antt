-- What a list by keys means, and that it is a work list.
use Rattle.std.specs.Prelude.{◌≡◌, ℕ, ◌+◌, ◌<◌, ◌≤◌, Bool, true, false, cond, List, [], ◌∷◌, Some, None, Option, ◌≢◌, nat_lt, nat_eq, refl}
use Rattle.std.proofs.Common.{sym, ap, ◌∙◌, arith}
use Rattle.std.specs.List.Sorted.{IsPermutation}
use Rattle.std.proofs.lemmas.Bool.{lt-ltb, le-ltb, ltb-true}
use Rattle.std.proofs.lemmas.List.Sorted.{sum_by-IsPermutation, IsPermutation-map}
use Rattle.worklist.specs.Work.{Work, Orderly}
use Rattle.worklist.specs.NodeSets as sets
use Rattle.worklist.specs.NodeSets.{bound_of, at_most_once}
use Rattle.worklist.specs.Lines.{times_cons_same, times_cons_other}
use Rattle.queue.specs.Orders.{Least}
use Rattle.keyed.specs.declared.node.KeyedNode.{KeyedNode}
use Rattle.keyed.specs.declared.list.Keyed.{Keyed}
use Rattle.keyed.specs.Order.{node_cmp, with_key, nodes_of, times, among}

abbrev pub limit : Keyed → ℕ
limit l = bound_of l.nodes

-- the waiting nodes with their keys, as a bag
abbrev pub entries : Keyed → List KeyedNode
entries l = l.queue.entries

abbrev pub waits : Keyed → ℕ → Bool
waits l v = among v (entries l)

-- a node that does not wait yet is put with its key; one that waits keeps its own
pub record Puts (l : Keyed) (v key : ℕ) (m : Keyed) : Type 0 where
  pub bound : limit m ≡ limit l
  pub bag : IsPermutation (cond (waits l v) (entries l) (with_key key v ∷ entries l)) (entries m)

-- v is taken, of all that wait the first by key and node
pub record Pulls (l : Keyed) (v : ℕ) (m : Keyed) : Type 0 where
  pub key : ℕ
  pub bound : limit m ≡ limit l
  pub first : Least node_cmp (with_key key v) (entries l)
  pub bag : IsPermutation (entries l) (with_key key v ∷ entries m)

abbrev pub Takes : Keyed → Option ℕ → Keyed → Type 0
Takes l None m = (entries l ≡ []) × (m ≡ l)
Takes l (Some v) m = Pulls l v m

abbrev pub Clears : Keyed → ℕ → Keyed → Type 0
Clears l n m = (limit m ≡ n) × (entries m ≡ [])

abbrev pub keyed_work : Work Keyed
keyed_work = record { waits = waits; puts = Puts; takes = Takes; clears = Clears }

pub times_shuffled : (x : ℕ) (es fs : List KeyedNode) → IsPermutation es fs → times x fs ≡ times x es
times_shuffled x es fs s = sum_by-IsPermutation (λ v. cond (nat_eq x v) 1 0) (nodes_of es) (nodes_of fs) (IsPermutation-map (λ (e : KeyedNode). e.node) es fs s)

put_adds : (l m : Keyed) (v key : ℕ) → Puts l v key m → waits m v ≡ true
put_adds l m v key p = go (waits l v) refl p.bag
  where
    go : (b : Bool) → waits l v ≡ b → IsPermutation (cond b (entries l) (with_key key v ∷ entries l)) (entries m) → waits m v ≡ true
    go true e s = ap (nat_lt 0) (times_shuffled v _ _ s) ∙ e
    go false e s = lt-ltb 0 (times v (entries m)) (omega (arith, times_shuffled v _ _ s, times_cons_same (nodes_of (entries l)) v))

put_keeps : (l m : Keyed) (v key : ℕ) → Puts l v key m → (x : ℕ) → (x ≢ v) → waits m x ≡ waits l x
put_keeps l m v key p x ne = ap (nat_lt 0) (go (waits l v) p.bag)
  where
    go : (b : Bool) → IsPermutation (cond b (entries l) (with_key key v ∷ entries l)) (entries m) → times x (entries m) ≡ times x (entries l)
    go true s = times_shuffled x _ _ s
    go false s = times_shuffled x _ _ s ∙ times_cons_other (nodes_of (entries l)) v x ne

-- v stands once more in the bag before the take
one_less : (l m : Keyed) (v : ℕ) → Pulls l v m → times v (entries l) ≡ 1 + times v (entries m)
one_less l m v p = sym (times_shuffled v _ _ p.bag) ∙ times_cons_same (nodes_of (entries m)) v

pub keyed_orderly : Orderly keyed_work
keyed_orderly = record {
  put_adds = put_adds;
  put_keeps = put_keeps;
  take_waits = λ l m v p. lt-ltb 0 (times v (entries l)) (omega (arith, one_less l m v p));
  take_removes = λ l m v p. le-ltb 0 (times v (entries m)) (omega (arith, one_less l m v p, at_most_once l.nodes _ l.once v));
  take_keeps = λ l m v p x ne. ap (nat_lt 0) (sym (times_cons_other (nodes_of (entries m)) v x ne) ∙ times_shuffled x _ _ p.bag);
  take_none = λ l m p x. ap (among x) p.0;
  take_none_keeps = λ l m p. p.1;
  clear_empties = λ l m n p x. ap (among x) p.1;
}

pub below_bound : (l : Keyed) (v : ℕ) → waits l v ≡ true → v < limit l
below_bound l v e = sets.below_bound l.nodes _ l.once v (ltb-true 0 (times v (entries l)) e)

pub in_range : (l : Keyed) → (1 ≤ limit l) × (limit l ≤ 1024)
in_range l = l.nodes.in_range

pub put_bound : (l m : Keyed) (v key : ℕ) → Puts l v key m → limit m ≡ limit l
put_bound l m v key p = p.bound

pub take_bound : (l m : Keyed) (a : Option ℕ) → Takes l a m → limit m ≡ limit l
take_bound l m None p = ap limit p.1
take_bound l m (Some v) p = p.bound

pub clear_bound : (l m : Keyed) (n : ℕ) → Clears l n m → limit m ≡ n
clear_bound l m n p = p.0
