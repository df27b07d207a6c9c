-- Tables of roads, judged road by road.
use Rattle.std.specs.Prelude.{◌≡◌, ℕ, ◌<◌, ◌≤◌, Bool, true, false, cond, not, ◌&&◌, List, length, Some, None, Option, nat_le, nat_lt, slice_index_or}
use Rattle.std.proofs.Common.{sym, ◌∙◌, inl, inr, arith}
use Rattle.std.proofs.lemmas.Bool.{not-false, not-true, false≢true, cases_lt}
use Rattle.std.proofs.lemmas.Bool.Decides.{nat_tests}
use Rattle.std.proofs.lemmas.List.Sums.{prefix_len-le-length, fails_before_first, passes_at_first}
use Rattle.std.specs.List.{position_or_len}
use Rattle.refusal.specs.declared.Refusal.{Refusal}
use Rattle.refusal.specs.declared.Refusal.TheVariants.{Table}

-- the first that fails a test, by its index; how many there are, where none does
abbrev pub lowest : {A : Type 0} → (A → Bool) → List A → ℕ
lowest f = position_or_len (λ a. not (f a))

-- 1 to 1,024 nodes, and at most 4,096 roads
abbrev pub sized : ℕ → ℕ → Bool
sized n m = nat_le 1 n && (nat_le n 1024 && nat_le m 4096)

-- why a table of n nodes and m roads is refused, if it is: low is the first road that breaks its rule
abbrev pub table_fault : ℕ → ℕ → ℕ → Option Refusal
table_fault n m low = cond (sized n m) (cond (nat_lt low m) (Some (Table (Some low))) None) (Some (Table None))

-- every road before i keeps the rule f, and i, where it is a road, breaks it
pub record Lowest {A : Type 0} (f : A → Bool) (d : A) (roads : List A) (i : ℕ) : Type 0 where
  pub within : i ≤ length roads
  pub before : (k : ℕ) → k < i → f (slice_index_or roads k d) ≡ true
  pub broken : i < length roads → f (slice_index_or roads i d) ≡ false

pub lowest_is : {A : Type 0} (f : A → Bool) (d : A) (roads : List A) → Lowest f d roads (lowest f roads)
lowest_is f d roads = record {
  within = prefix_len-le-length _ roads;
  before = λ k h. not-false _ (fails_before_first (λ a. not (f a)) roads k d h);
  broken = λ h. not-true _ (passes_at_first (λ a. not (f a)) roads d h);
}

-- what the size test tells
pub record Sized (n m : ℕ) : Type 0 where
  pub some : 1 ≤ n
  pub few : n ≤ 1024
  pub paved : m ≤ 4096

pub sized_tells : (n m : ℕ) → sized n m ≡ true → Sized n m
sized_tells n m e = record { some = grind (arith, nat_tests); few = grind (arith, nat_tests); paved = grind (arith, nat_tests) }

-- what no fault tells
module _ {A : Type 0} (n : ℕ) (f : A → Bool) (d : A) (roads : List A) (accepted : table_fault n (length roads) (lowest f roads) ≡ None) where
  pub sizes_right : Sized n (length roads)
  sizes_right = record { some = grind (arith, nat_tests); few = grind (arith, nat_tests); paved = grind (arith, nat_tests) }

  pub each_right : (r : ℕ) → r < length roads → f (slice_index_or roads r d) ≡ true
  each_right r h =
      let none : length roads ≤ lowest f roads = grind (arith, nat_tests) in
      (lowest_is f d roads).before r (omega arith)

-- right sizes and right roads have no fault
pub none_wrong : {A : Type 0} (n : ℕ) (f : A → Bool) (d : A) (roads : List A) → Sized n (length roads) → ((r : ℕ) → r < length roads → f (slice_index_or roads r d) ≡ true) → table_fault n (length roads) (lowest f roads) ≡ None
none_wrong n f d roads size each =
    let l = lowest_is f d roads in
    let all : length roads ≤ lowest f roads = elim (cases_lt (lowest f roads) (length roads)) [
      | inl h ↦ absurd (false≢true (sym (l.broken h) ∙ each (lowest f roads) h))
      | inr h ↦ h
    ] in
    grind (arith, nat_tests)
