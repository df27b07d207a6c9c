-- What a test of two entries of a heap tells of the order turned round, in which the library's heaps have their greatest on top.
use Rattle.std.proofs.Common.{◌≡◌, ℕ, ◌<◌, Bool, List, length, get_or, sym, ◌∙◌}
use Rattle.std.specs.declared.cmp.Ordering.{Ordering}
use Rattle.std.specs.Ordering.{is_lt, flip_args}
use Rattle.std.specs.BinaryHeap.Sift.{ComparesAt}
use Rattle.std.proofs.lemmas.List.{get_or_default}

at : {X : Type 0} (xs : List X) (i : ℕ) (x d : X) → i < length xs → x ≡ get_or xs i x → get_or xs i d ≡ x
at xs i x d p e = get_or_default xs i d x p ∙ sym e

-- whether `xs[a]` comes before `xs[b]`
pub compares : {X : Type 0} (R : X → X → Ordering) (xs : List X) (a b : ℕ) (x y : X) (r : Bool) → a < length xs → b < length xs → x ≡ get_or xs a x → y ≡ get_or xs b y → r ≡ is_lt (R x y) → ComparesAt (flip_args R) xs b a r
compares R xs a b x y r p q e f t = λ d. (λ i. is_lt (R (at xs a x d p e i) (at xs b y d q f i))) ∙ sym t
