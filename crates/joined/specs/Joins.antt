-- The laws of a join, from those of its parts.
use Rattle.std.specs.Prelude.{◌≡◌, ℕ, ◌+◌, ◌-◌, ◌<◌, ◌≤◌, false, cond, is_some, None, nat_lt, refl}
use Rattle.std.proofs.Common.{ap, ◌∙◌, inl, inr, arith}
use Rattle.std.proofs.lemmas.Bool.{cases_lt, cond-true, cond-false, lt-ltb, le-ltb}
use Rattle.std.proofs.lemmas.Bool.Decides.{nat_tests}
use Rattle.network.specs.Net.{Net, Lawful}
use Rattle.joined.specs.Joining.{join_fault, part, join}

-- the road r of one network is the road s of another
pub record SameRoad (a : Net) (r : ℕ) (b : Net) (s : ℕ) : Type 0 where
  pub tail : a.tail r ≡ b.tail s
  pub head : a.head r ≡ b.head s
  pub least : a.least r ≡ b.least s
  pub cross : (x : ℕ) → a.cross r x ≡ b.cross s x

module _ (a b : Net) where
  -- what no fault tells
  fits_tells : is_some (join_fault a b) ≡ false → (a.nodes ≡ b.nodes) × (a.roads + b.roads ≤ 4096)
  fits_tells e = grind (arith, nat_tests)

  -- a road past those of the first is one of the second's, and the two have the same nodes
  past : (r : ℕ) → r < (join a b).roads → a.roads ≤ r → (a.nodes ≡ b.nodes) × (r - a.roads < b.roads)
  past r h k = grind (arith, nat_tests)

  in_first : (f g : ℕ → ℕ) (r : ℕ) → r < a.roads → part a.roads f g r ≡ f r
  in_first f g r h = cond-true (nat_lt r a.roads) (f r) (g (r - a.roads)) (lt-ltb r a.roads h)

  in_second : (f g : ℕ → ℕ) (r : ℕ) → a.roads ≤ r → part a.roads f g r ≡ g (r - a.roads)
  in_second f g r h = cond-false (nat_lt r a.roads) (f r) (g (r - a.roads)) (le-ltb r a.roads h)

  -- what holds of each road of both parts holds of each road of the join
  each : (f g f' g' : ℕ → ℕ) (P : ℕ → ℕ → Type 0) → ((r : ℕ) → r < a.roads → P (f r) (f' r)) → (a.nodes ≡ b.nodes → (r : ℕ) → r < b.roads → P (g r) (g' r)) → (r : ℕ) → r < (join a b).roads → P (part a.roads f g r) (part a.roads f' g' r)
  each f g f' g' P p q r h =
      elim (cases_lt r a.roads) [
        | inl l ↦ rw (in_first f g r l, in_first f' g' r l) (p r l)
        | inr l ↦ let t = past r h l in rw (in_second f g r l, in_second f' g' r l) (q t.0 (r - a.roads) t.1)
      ]

  pub join_lawful : Lawful a → Lawful b → Lawful (join a b)
  join_lawful l m = record {
    some = l.some;
    few = l.few;
    paved = let few = l.paved in grind (arith, nat_tests);
    tails = each a.tail b.tail a.tail b.tail (λ u _. u < a.nodes) l.tails (λ e r h. let k = m.tails r h in omega arith);
    heads = each a.head b.head a.head b.head (λ u _. u < a.nodes) l.heads (λ e r h. let k = m.heads r h in omega arith);
    takes = each a.least b.least a.least b.least (λ u _. 1 ≤ u) l.takes (λ _. m.takes);
    early = λ r x h. each a.least b.least (λ k. a.cross k x) (λ k. b.cross k x) (λ u v. x + u ≤ v) (λ k. l.early k x) (λ _ k. m.early k x) r h;
    late = λ r x h. each (λ k. a.cross k x) (λ k. b.cross k x) (λ k. a.cross k x) (λ k. b.cross k x) (λ u _. u ≤ x + 10000) (λ k. l.late k x) (λ _ k. m.late k x) r h;
    order = λ r x y h k. each (λ i. a.cross i x) (λ i. b.cross i x) (λ i. a.cross i y) (λ i. b.cross i y) (λ u v. u ≤ v) (λ i p. l.order i x y p k) (λ _ i p. m.order i x y p k) r h;
  }

  first_roads : (r : ℕ) → r < a.roads → SameRoad (join a b) r a r
  first_roads r h = record {
    tail = in_first a.tail b.tail r h;
    head = in_first a.head b.head r h;
    least = in_first a.least b.least r h;
    cross = λ x. in_first (λ k. a.cross k x) (λ k. b.cross k x) r h;
  }

  after_first : (f g : ℕ → ℕ) (r : ℕ) → part a.roads f g (a.roads + r) ≡ g r
  after_first f g r = in_second f g (a.roads + r) (omega arith) ∙ ap g (omega arith)

  second_roads : (r : ℕ) → SameRoad (join a b) (a.roads + r) b r
  second_roads r = record {
    tail = after_first a.tail b.tail r;
    head = after_first a.head b.head r;
    least = after_first a.least b.least r;
    cross = λ x. after_first (λ k. a.cross k x) (λ k. b.cross k x) r;
  }

-- Networks that may be joined have as many roads together as each has: those of the first under their numbers, then
-- those of the second. A join of lawful networks is lawful.
pub record JoinLaws : Type 0 where
  pub nodes : (a b : Net) → (join a b).nodes ≡ a.nodes
  pub roads : (a b : Net) → join_fault a b ≡ None → (join a b).roads ≡ a.roads + b.roads
  pub firsts : (a b : Net) (r : ℕ) → r < a.roads → SameRoad (join a b) r a r
  pub seconds : (a b : Net) (r : ℕ) → SameRoad (join a b) (a.roads + r) b r
  pub lawful : (a b : Net) → Lawful a → Lawful b → Lawful (join a b)

pub join_laws : JoinLaws
join_laws = record {
  nodes = λ a b. refl;
  roads = λ a b e. ap (λ (f : _). a.roads + cond (is_some f) 0 b.roads) e;
  firsts = first_roads;
  seconds = second_roads;
  lawful = join_lawful;
}
