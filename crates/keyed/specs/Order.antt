-- Nodes with keys in order: the smallest key first, the lower node on a tie.
use Rattle.std.specs.Prelude.{ℕ, Bool, List, map}
use Rattle.std.specs.declared.cmp.Ordering.{Ordering}
use Rattle.std.specs.Ordering.{nat_cmp, ordering_then}
use Rattle.worklist.specs.Lines as lines
use Rattle.keyed.specs.declared.node.KeyedNode.{KeyedNode}

-- by key, and then by node
abbrev pub node_cmp : KeyedNode → KeyedNode → Ordering
node_cmp a b = ordering_then (nat_cmp a.key b.key) (nat_cmp a.node b.node)

abbrev pub with_key : ℕ → ℕ → KeyedNode
with_key key v = record { key = key; node = v }

-- the nodes of a bag
abbrev pub nodes_of : List KeyedNode → List ℕ
nodes_of bag = map (λ (e : KeyedNode). e.node) bag

-- how often the node v stands in a bag
abbrev pub times : ℕ → List KeyedNode → ℕ
times v bag = lines.times v (nodes_of bag)

abbrev pub among : ℕ → List KeyedNode → Bool
among v bag = lines.among v (nodes_of bag)
