-- What `peek`, `push` and `pop` do to the entries, which are the first of the slots. The library's heaps have their greatest on top.
use Rattle.std.proofs.Common.{◌≡◌, ℕ, ◌+◌, ◌-◌, ◌<◌, ◌≤◌, List, [], ◌∷◌, ◌++◌, length, get_or, take, drop, set, refl, sym, ap, ◌∙◌, subst, arith}
use Rattle.std.specs.Prelude.{IfSome, MatchOption, Option, None, Some}
use Rattle.std.specs.declared.cmp.Ordering.{Ordering}
use Rattle.std.specs.Cmp.{IsTotalOrder}
use Rattle.std.specs.Ordering.{flip_args}
use Rattle.std.specs.List.{ContainsAt, slice_get, swap_remove}
use Rattle.std.specs.List.Sorted.{IsPermutation}
use Rattle.std.specs.Slice.Heapsort.{IsHeapWithin}
use Rattle.std.specs.BinaryHeap.{IsHeap, lt_by_cmp}
use Rattle.std.specs.BinaryHeap.Sift.{SiftsUp, SiftsDown, RestoresHeap}
use Rattle.std.proofs.ByRecursion.{has_get_or}
use Rattle.std.proofs.lemmas.Cmp.{back_total}
use Rattle.std.proofs.lemmas.List.{length-append, length-drop, length-set, length-take-le, get_or_default, get_or-take, take_at, take_more_set, take-append-drop, take-take}
use Rattle.std.proofs.lemmas.List.Sorted.{IsPermutation-to_front, IsPermutation-sym, IsPermutation-trans, IsPermutation-cons, IsPermutation-swap_remove}
use Rattle.std.proofs.HeapSift.{empty, greatest, pushed, popped}
use Rattle.std.proofs.Math.Seq.{take-set-lt}
use Rattle.queue.specs.Orders.{Least, First}

-- what is first in a list is in it
pub on_top : {X : Type 0} (xs : List X) (r : Option X) → r ≡ slice_get xs 0 → IfSome r (λ x. ContainsAt xs x)
on_top xs None e = _
on_top [] (Some x) e = cc
on_top (y ∷ ys) (Some x) e =
    let is : x ≡ y = cc in
    subst (ContainsAt (y ∷ ys)) (sym is) (has_get_or (y ∷ ys) 0 y (omega arith))

-- what is first in a heap comes first; that it is a heap follows from P
pub peeked : {X P : Type 0} {cmp : X → X → Ordering} → IsTotalOrder cmp → (xs : List X) → (P → IsHeap (flip_args cmp) xs) → (r : Option X) → r ≡ slice_get xs 0 → MatchOption r (xs ≡ []) (λ x. P → First cmp x xs)
peeked o [] h None e = refl
peeked o [] h (Some x) e = cc
peeked o (y ∷ ys) h None e = cc
peeked {X} {P} {cmp} o (y ∷ ys) h (Some x) e = λ p.
    let is : x ≡ y = cc in
    record { held = on_top (y ∷ ys) (Some x) e; least = subst (λ z. Least cmp z (y ∷ ys)) (sym is) (greatest (back_total o) (y ∷ ys) y refl (h p)) }

-- no entries are a heap
pub nothing_held : {X : Type 0} {cmp : X → X → Ordering} → IsTotalOrder cmp → IsHeap (flip_args cmp) []
nothing_held o = empty (back_total o) [] refl

module _ {X : Type 0} where
  -- the entries and the spare slots are all of the slots
  pub room_of : (n : ℕ) (xs : List X) → length (take n xs) + length (drop n xs) ≡ length xs
  room_of n xs = sym (length-append (take n xs) (drop n xs)) ∙ ap length (take-append-drop n xs)

  -- the first n of xs were lent, and came back as zs
  same_length : (xs zs : List X) (n : ℕ) → length zs ≡ n → n ≤ length xs → length (zs ++ drop n xs) ≡ length xs
  same_length xs zs n long le = omega (arith, long, length-append zs (drop n xs), length-drop n xs)

module _ {X : Type 0} (cmp : X → X → Ordering) where
  -- the first n of xs are a heap
  abbrev pub Held : List X → ℕ → Type 0
  Held xs n = (n ≤ length xs) × IsHeap (flip_args cmp) (take n xs)

  -- the first n of xs were lent, and came back as the heap zs
  returned : (xs zs : List X) (n : ℕ) → length zs ≡ n → n ≤ length xs → IsHeap (flip_args cmp) zs → Held (zs ++ drop n xs) n
  returned xs zs n long le h = (omega (arith, long, same_length xs zs n long le), subst (IsHeap (flip_args cmp)) (sym (take_at zs (drop n xs) n long)) h)

  -- after a push of x: the slots, and the bag
  pub record Pushed (xs ys : List X) (n : ℕ) (x : X) : Type 0 where
    pub long : length ys ≡ length xs
    pub heap : Held xs n → Held ys (n + 1)
    pub bag : IsPermutation (x ∷ take n xs) (take (n + 1) ys)

  -- after a pop of x: the slots, the order and the bag
  pub record Popped (xs ys : List X) (last : ℕ) (x : X) : Type 0 where
    pub long : length ys ≡ length xs
    pub heap : Held xs (last + 1) → Held ys last
    pub least : Held xs (last + 1) → Least cmp x (take (last + 1) xs)
    pub bag : IsPermutation (take (last + 1) xs) (x ∷ take last ys)

-- once the top of ys has sunk
restored : {X : Type 0} (R : X → X → Ordering) (ys zs : List X) (n : ℕ) → length ys ≡ n → length zs ≡ n → SiftsDown R ys 0 (length ys) zs → RestoresHeap R ys 1 n zs
unfolding RestoresHeap SiftsDown IsHeap
restored {X} R ys zs n long short down = λ h. subst (IsHeapWithin (lt_by_cmp R) zs 0) (long ∙ sym short) (down.1 (subst (IsHeapWithin (lt_by_cmp R) ys 1) (sym long) h))

-- of the first entries the last takes the place of the top
moved_up : {X : Type 0} (xs : List X) (last : ℕ) (x d : X) → last + 1 ≤ length xs → take last (set xs 0 (get_or xs last d)) ≡ swap_remove (take (last + 1) xs) 0 x
moved_up xs last x d le =
    let all = take (last + 1) xs in
    let y = get_or xs last d in
    let at : length all - 1 ≡ last = omega (arith, length-take-le (last + 1) xs le) in
    sym (take-take last (last + 1) (set xs 0 y) (omega arith))
    ∙ ap (take last) (take-set-lt (last + 1) xs 0 y (omega arith))
    ∙ ap (λ e. take last (set all 0 e)) (get_or_default xs last d x (omega arith) ∙ sym (get_or-take (last + 1) xs last x (omega arith)))
    ∙ ap (λ k. take k (set all 0 (get_or all k x))) (sym at)

module _ {X : Type 0} {cmp : X → X → Ordering} (o : IsTotalOrder cmp) where
  -- x is written after the first n of xs, and rises among them, which leaves zs
  pub push_entry : (xs zs : List X) (n : ℕ) (x : X) → n < length xs →
      let lent = take (n + 1) (set xs n x) in
      length zs ≡ length lent → SiftsUp (flip_args cmp) lent (length lent - 1) zs → IsPermutation lent zs → Pushed cmp xs (zs ++ drop (n + 1) (set xs n x)) n x
  push_entry xs zs n x in_range same up moved =
      let lent = take (n + 1) (set xs n x) in
      let put : lent ≡ take n xs ++ x ∷ [] = take_more_set xs n x in_range in
      let room = length-set xs n x in
      let long = same ∙ length-take-le (n + 1) (set xs n x) (omega (arith, room)) in
      let more = ap length put ∙ length-append (take n xs) (x ∷ []) in
      record {
        long = same_length (set xs n x) zs (n + 1) long (omega (arith, room)) ∙ room;
        heap = λ held. returned cmp (set xs n x) zs (n + 1) long (omega (arith, room)) (pushed (flip_args cmp) (back_total o) (take n xs) (x ∷ []) lent zs _ (omega (arith, more)) put (omega (arith, same, more)) up held.1);
        bag = subst (IsPermutation (x ∷ take n xs)) (sym (take_at zs (drop (n + 1) (set xs n x)) (n + 1) long))
            (IsPermutation-trans _ _ _ (IsPermutation-sym _ _ (IsPermutation-to_front (take n xs) x)) (subst (λ (l : List X). IsPermutation l zs) put moved));
      }

  -- the entry after the first `last` of xs takes the place of the top x, and sinks among them, which leaves zs
  pub pop_entry : (xs zs : List X) (last : ℕ) (x d : X) → last + 1 ≤ length xs → x ≡ get_or xs 0 x →
      let lent = take last (set xs 0 (get_or xs last d)) in
      length zs ≡ length lent → SiftsDown (flip_args cmp) lent 0 (length lent) zs → IsPermutation lent zs → Popped cmp xs (zs ++ drop last (set xs 0 (get_or xs last d))) last x
  pop_entry xs zs last x d le first same down moved =
      let all = take (last + 1) xs in
      let y = get_or xs last d in
      let lent = take last (set xs 0 y) in
      let room = length-set xs 0 y in
      let long = length-take-le (last + 1) xs le in
      let short = length-take-le last (set xs 0 y) (omega (arith, room, le)) in
      let top = first ∙ sym (get_or-take (last + 1) xs 0 x (omega arith)) in
      let gone = moved_up xs last x d le in
      let left = λ (h : IsHeap (flip_args cmp) all). popped (flip_args cmp) (back_total o) all lent zs x last (sym long) top gone (restored (flip_args cmp) lent zs last short (same ∙ short) down) h in
      record {
        long = same_length (set xs 0 y) zs last (same ∙ short) (omega (arith, room, le)) ∙ room;
        heap = λ held. returned cmp (set xs 0 y) zs last (same ∙ short) (omega (arith, room, le)) (left held.1).0;
        least = λ held. (left held.1).1;
        bag = subst (λ (l : List X). IsPermutation all (x ∷ l)) (sym (take_at zs (drop last (set xs 0 y)) last (same ∙ short)))
            (IsPermutation-trans _ _ _ (subst (λ (l : List X). IsPermutation all (x ∷ l)) (sym gone) (IsPermutation-swap_remove all 0 x (omega (arith, long)) top)) (IsPermutation-cons x _ _ moved));
      }
