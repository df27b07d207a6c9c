-- A queue is a bag of entries with room for so many; what a call does to it.
use Rattle.std.specs.Prelude.{◌≡◌, ℕ, ◌+◌, ◌<◌, ◌≤◌, List, [], ◌∷◌, length}
use Rattle.std.proofs.Props.{props}
use Rattle.std.specs.Borrow.{GName}
use Rattle.std.specs.BinaryHeap.{IsHeap}
use Rattle.std.specs.List.Sorted.{IsPermutation}
use Rattle.std.specs.declared.cmp.Ordering.{Ordering}
use Rattle.std.specs.Ordering.{flip_args}
use Rattle.queue.specs.Orders.{Least}

-- the entries, in no promised order, what the slots hold that are not taken, and which loan the slots are
pub record Bag (X : Type 0) : Type 0 where
  pub entries : List X
  pub spare : List X
  pub loan : GName

-- how many entries fit
abbrev pub room : {X : Type 0} → Bag X → ℕ
room q = length q.entries + length q.spare

-- what a queue keeps true of its entries: they lie as a heap, with what comes first on top; that there is room for them is so of every bag
pub record Sound {X : Type 0} (cmp : X → X → Ordering) (q : Bag X) : Type 0 where
  pub within : length q.entries ≤ room q
  pub ordered : IsHeap (flip_args cmp) q.entries

-- a queue is sound in one way at most, so that a type may keep the fact
pub sound_once : {X : Type 0} (cmp : X → X → Ordering) (q : Bag X) → IsProp (Sound cmp q)
sound_once cmp q = hlevel props

-- p has the entries of q and x
pub record Gains {X : Type 0} (q : Bag X) (x : X) (p : Bag X) : Type 0 where
  pub fits : length q.entries < room q
  pub len : length p.entries ≡ length q.entries + 1
  pub bag : IsPermutation (x ∷ q.entries) p.entries

-- q is full: it stays as it was, and the entry x is handed back
pub record Refuses {X : Type 0} (q : Bag X) (x y : X) (p : Bag X) : Type 0 where
  pub full : length q.entries ≡ room q
  pub back : y ≡ x
  pub unaltered : p ≡ q

-- p has the entries of q without x
pub record Without {X : Type 0} (q : Bag X) (x : X) (p : Bag X) : Type 0 where
  pub len : length p.entries + 1 ≡ length q.entries
  pub bag : IsPermutation q.entries (x ∷ p.entries)

-- p has the entries of q without x, which comes first
pub record Loses {X : Type 0} (cmp : X → X → Ordering) (q : Bag X) (x : X) (p : Bag X) : Type 0 where
  pub len : length p.entries + 1 ≡ length q.entries
  pub least : Least cmp x q.entries
  pub bag : IsPermutation q.entries (x ∷ p.entries)

-- q has no entries, and stays as it was
pub record Lacks {X : Type 0} (q p : Bag X) : Type 0 where
  pub none : q.entries ≡ []
  pub unaltered : p ≡ q
