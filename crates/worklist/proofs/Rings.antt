-- What a put and a take do to the ring.
use Rattle.std.proofs.Common.{◌≡◌, ℕ, zero, suc, ◌+◌, ◌%◌, ◌<◌, List, [], ◌∷◌, ◌++◌, length, get_or, set, sym, refl, ap, ◌∙◌, arith}
use Rattle.std.proofs.lemmas.List.{ext_get_or, get_or-set_same, get_or-set_other}
use Rattle.std.proofs.lemmas.List.FromFn.{length-map-range_with_len, get_or-map-range_with_len, map-range_with_len_more}
use Rattle.worklist.specs.Lines.{around}

pub around_none : (ring : List ℕ) (first : ℕ) → around ring first 0 ≡ []
unfolding around
around_none ring first = refl

pub length_around : (ring : List ℕ) (first count : ℕ) → length (around ring first count) ≡ count
unfolding around
length_around ring first count = length-map-range_with_len _ 0 count

get_or_around : (ring : List ℕ) (first count i : ℕ) → i < count → get_or (around ring first count) i 0 ≡ get_or ring ((first + i) % 1024) 0
unfolding around
get_or_around ring first count i h = get_or-map-range_with_len (λ j. get_or ring ((first + j) % 1024) 0) 0 count i i 0 h (omega arith)

-- what is written at no place of the line does not alter it
away : (ring : List ℕ) (first count e v : ℕ) → ((i : ℕ) → i < count → (first + i) % 1024 ≡ e → ⊥) → around (set ring e v) first count ≡ around ring first count
away ring first count e v free = ext_get_or 0 (around (set ring e v) first count) (around ring first count)
    (length_around (set ring e v) first count ∙ sym (length_around ring first count))
    (λ i h. let lt : i < count = omega (arith, length_around (set ring e v) first count) in
    get_or_around (set ring e v) first count i lt ∙ get_or-set_other ring e ((first + i) % 1024) v 0 (free i lt) ∙ sym (get_or_around ring first count i lt))

around_more : (ring : List ℕ) (first count : ℕ) → around ring first (count + 1) ≡ around ring first count ++ get_or ring ((first + count) % 1024) 0 ∷ []
unfolding around
around_more ring first count = map-range_with_len_more (λ j. get_or ring ((first + j) % 1024) 0) 0 count count (omega arith)

pub around_put : (ring : List ℕ) (first count v : ℕ) → length ring ≡ 1024 → count < 1024 → around (set ring ((first + count) % 1024) v) first (count + 1) ≡ around ring first count ++ v ∷ []
around_put ring first count v long few =
    let e = (first + count) % 1024 in
    let at : get_or (set ring e v) e 0 ≡ v = get_or-set_same ring e v 0 (omega arith) in
    let old : around (set ring e v) first count ≡ around ring first count = away ring first count e v (λ i h same. omega arith) in
    around_more (set ring e v) first count ∙ ap (λ (l : List ℕ). l ++ get_or (set ring e v) e 0 ∷ []) old ∙ ap (λ (x : ℕ). around ring first count ++ x ∷ []) at

pub around_take : (ring : List ℕ) (first count rest : ℕ) → first < 1024 → rest + 1 ≡ count → around ring first count ≡ get_or ring first 0 ∷ around ring ((first + 1) % 1024) rest
around_take ring first count rest place one = ext_get_or 0 (around ring first count) (get_or ring first 0 ∷ around ring next rest)
    (omega (arith, length_around ring first count, length_around ring next rest))
    (λ i h. at i (omega (arith, length_around ring first count)))
  where
    next : ℕ
    next = (first + 1) % 1024

    at : (i : ℕ) → i < count → get_or (around ring first count) i 0 ≡ get_or (get_or ring first 0 ∷ around ring next rest) i 0
    at zero h = get_or_around ring first count 0 h ∙ ap (λ k. get_or ring k 0) {x = (first + 0) % 1024} {y = first} (omega arith)
    at (suc j) h =
        get_or_around ring first count (suc j) h
        ∙ ap (λ k. get_or ring k 0) {x = (first + suc j) % 1024} {y = (next + j) % 1024} (omega arith)
        ∙ sym (get_or_around ring next rest j (omega arith))
