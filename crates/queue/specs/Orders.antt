-- The first of a bag by an order. Assumes nothing.
use Rattle.std.specs.Prelude.{◌≡◌, false, List}
use Rattle.std.specs.declared.cmp.Ordering.{Ordering}
use Rattle.std.specs.Ordering.{is_lt}
use Rattle.std.specs.List.{ContainsAt, AllByRecursion}

-- no entry of xs comes before x
abbrev pub Least : {X : Type 0} → (X → X → Ordering) → X → List X → Type 0
Least cmp x xs = AllByRecursion (λ y. is_lt (cmp y x) ≡ false) xs

-- x is the entry of xs that comes first
pub record First {X : Type 0} (cmp : X → X → Ordering) (x : X) (xs : List X) : Type 0 where
  pub held : ContainsAt xs x
  pub least : Least cmp x xs

-- two entries that come first are one
abbrev pub OneFirst : {X : Type 0} → (X → X → Ordering) → Type 0
OneFirst {X} cmp = (xs : List X) (x y : X) → First cmp x xs → First cmp y xs → x ≡ y
