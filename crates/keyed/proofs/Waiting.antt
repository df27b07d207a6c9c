-- What a put and a take do to a list by keys.
use Rattle.std.proofs.Common.{◌≡◌, ℕ, ◌+◌, ◌<◌, ◌≤◌, true, false, List, [], ◌∷◌, length, sym, refl, ap, ◌∙◌, arith}
use mathlib.Core.HLevel.{is_prop→PathP}
use Rattle.std.specs.Coded.{le_prop, Π_prop}
use Rattle.std.proofs.Math.Nat.{ℕ_set}
use Rattle.std.specs.Prelude.{Result, Ok, Err, MatchResult}
use Rattle.std.specs.List.Sorted.{IsPermutation}
use Rattle.std.proofs.lemmas.Bool.{lt-ltb, both_ways}
use Rattle.std.proofs.lemmas.List.{nil_from_length}
use Rattle.std.proofs.lemmas.List.Sorted.{length_permutation}
use Rattle.worklist.specs.declared.nodes.NodeSet.{NodeSet}
use Rattle.worklist.specs.Work.{Idle}
use Rattle.worklist.specs.NodeSets.{bound_of, has, size, IsEmpty, SetsMark, EachOnce}
use Rattle.worklist.specs.Lines.{times_cons_same, times_cons_other}
use Rattle.worklist.proofs.Marking as marking
use Rattle.queue.specs.Bags.{Bag, Sound, room, sound_once, Gains, Refuses}
use Rattle.keyed.specs.declared.node.KeyedNode.{KeyedNode}
use Rattle.keyed.specs.declared.list.Keyed.{Keyed}
use Rattle.keyed.specs.Order.{node_cmp, with_key, nodes_of, times, among}
use Rattle.keyed.specs.Lists.{entries, waits, keyed_work, times_shuffled}

-- two lists of the same nodes and the same queue are one
pub same_list : (l m : Keyed) → m.nodes ≡ l.nodes → m.queue ≡ l.queue → m ≡ l
same_list l m p q = λ i. record {
  nodes = p i;
  queue = q i;
  sound = is_prop→PathP (λ j. Sound node_cmp (q j)) (λ j. sound_once node_cmp (q j)) m.sound l.sound i;
  space = is_prop→PathP (λ j. 1024 ≤ room (q j)) (λ j. le_prop) m.space l.space i;
  tally = is_prop→PathP (λ j. size (p j) ≡ length (q j).entries) (λ j. ℕ_set _ _) m.tally l.tally i;
  once = is_prop→PathP (λ j. EachOnce (p j) (λ v. times v (q j).entries)) (λ j. Π_prop (λ v. ℕ_set _ _)) m.once l.once i;
}

-- nothing waits
pub blank_tally : (t : NodeSet) (es : List KeyedNode) → IsEmpty t → es ≡ [] → size t ≡ length es
blank_tally t es off none = marking.size_none t off ∙ sym (ap length none)

pub blank_once : (t : NodeSet) (es : List KeyedNode) → IsEmpty t → es ≡ [] → EachOnce t (λ v. times v es)
blank_once t es off none = λ v. ap (times v) none ∙ marking.nothing_once t off v

-- v is put with its key, which did not wait; t are the nodes that wait then
module _ (l : Keyed) (v key : ℕ) (t : NodeSet) (off : has l.nodes v ≡ false) (low : v < bound_of l.nodes) (puts : SetsMark l.nodes v true t) where
  abbrev pub x : KeyedNode
  x = with_key key v

  pub not_full : length (entries l) ≡ room l.queue → ⊥
  not_full full = omega (arith, marking.put_room l.nodes t v off low puts, l.tally, l.space)

  -- the push is answered, as there was room
  pub gains : (q : Bag KeyedNode) (r : Result (Unit {0}) KeyedNode) → MatchResult r (λ _. Gains l.queue x q) (λ y. Refuses l.queue x y q) → Gains l.queue x q
  gains q (Ok _) told = told
  gains q (Err y) told = absurd (not_full told.full)

  module _ (q : Bag KeyedNode) (gained : Gains l.queue x q) where
    pub put_tally : size t ≡ length q.entries
    put_tally = omega (arith, marking.put_size l.nodes t v off low puts, l.tally, length_permutation _ _ gained.bag)

    pub put_once : EachOnce t (λ y. times y q.entries)
    put_once = marking.put_once l.nodes t v off low puts (λ y. times y (entries l)) (λ y. times y q.entries) l.once
        (times_shuffled v _ _ gained.bag ∙ times_cons_same (nodes_of (entries l)) v ∙ omega arith)
        (λ y ne. times_shuffled y _ _ gained.bag ∙ times_cons_other (nodes_of (entries l)) v y ne)

-- x is taken, and q is left
module _ (l : Keyed) (x : KeyedNode) (q : Bag KeyedNode) (bag : IsPermutation (entries l) (x ∷ q.entries)) where
  own : times x.node (entries l) ≡ 1 + times x.node q.entries
  own = sym (times_shuffled x.node _ _ bag) ∙ times_cons_same (nodes_of q.entries) x.node

  pub take_below : x.node < bound_of l.nodes
  take_below = marking.take_below l.nodes x.node (λ y. times y (entries l)) (λ y. times y q.entries) l.once own

  pub take_tally : (t : NodeSet) → SetsMark l.nodes x.node false t → size t ≡ length q.entries
  take_tally t takes = omega (arith, marking.take_size l.nodes t x.node (λ y. times y (entries l)) (λ y. times y q.entries) l.once own takes, l.tally, length_permutation _ _ bag)

  pub take_once : (t : NodeSet) → SetsMark l.nodes x.node false t → EachOnce t (λ y. times y q.entries)
  take_once t takes = marking.take_once l.nodes t x.node _ _ l.once own takes
      (λ y ne. sym (times_cons_other (nodes_of q.entries) x.node y ne) ∙ times_shuffled y _ _ bag)

pub none_waits : (l : Keyed) → length (entries l) ≡ 0 → Idle keyed_work l
none_waits l none v = ap (among v) (nil_from_length (entries l) none)

pub none_counts : (l : Keyed) → Idle keyed_work l → length (entries l) ≡ 0
none_counts l idle = go (entries l) refl
  where
    go : (es : List KeyedNode) → entries l ≡ es → length (entries l) ≡ 0
    go [] e = ap length e
    go (x ∷ es) e = absurd (both_ways (waits l x.node) (idle x.node) (lt-ltb 0 (times x.node (entries l)) (omega (arith, ap (times x.node) e, times_cons_same (nodes_of es) x.node))))
