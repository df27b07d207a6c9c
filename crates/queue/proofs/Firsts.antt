-- What comes first is one entry.
use Rattle.std.proofs.Common.{◌≡◌, false, refl}
use Rattle.std.specs.declared.cmp.Ordering.{Ordering}
use Rattle.std.specs.declared.cmp.Ordering.TheVariants.{Less, Equal, Greater}
use Rattle.std.specs.Cmp.{IsTotalOrder}
use Rattle.std.specs.Ordering.{is_lt, ordering_reverse}
use Rattle.std.proofs.ByRecursion.{all-has}
use Rattle.queue.specs.Orders.{OneFirst}

-- of two entries neither comes before the other only where they compare equal
neither : (r s : Ordering) → r ≡ ordering_reverse s → is_lt r ≡ false → is_lt s ≡ false → r ≡ Equal
neither Less s e p q = cc
neither Equal s e p q = refl
neither Greater Less e p q = cc
neither Greater Equal e p q = cc
neither Greater Greater e p q = cc

pub one_first : {X : Type 0} {cmp : X → X → Ordering} → IsTotalOrder cmp → ((x y : X) → cmp x y ≡ Equal → x ≡ y) → OneFirst cmp
one_first {X} {cmp} o same xs x y f g = same x y (neither (cmp x y) (cmp y x) (o.antisymm x y)
    (all-has (λ z. is_lt (cmp z y) ≡ false) xs x g.least f.held)
    (all-has (λ z. is_lt (cmp z x) ≡ false) xs y f.least g.held))
