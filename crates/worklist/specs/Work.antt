-- What a work list means, whatever its order, and the laws that every list keeps.
use Rattle.std.specs.Prelude.{◌≡◌, ℕ, Bool, true, false, Some, None, Option, ◌≢◌}
use Rattle.refusal.specs.declared.Refusal.{Refusal}
use Rattle.refusal.specs.declared.Refusal.TheVariants.{Range}

-- which nodes wait, and what putting (a node with its key), taking (a node or none) and clearing (to a bound) do
pub record Work (L : Type 0) : Type 1 where
  pub waits : L → ℕ → Bool
  pub puts : L → ℕ → ℕ → L → Type 0
  pub takes : L → Option ℕ → L → Type 0
  pub clears : L → ℕ → L → Type 0

-- nothing waits
abbrev pub Idle : {L : Type 0} → Work L → L → Type 0
Idle w l = (v : ℕ) → w.waits l v ≡ false

-- a put adds exactly its node; a take removes exactly the waiting node that it names, and names none only where none waits;
-- a clear leaves none
pub record Orderly {L : Type 0} (w : Work L) : Type 0 where
  pub put_adds : (l l' : L) (v key : ℕ) → w.puts l v key l' → w.waits l' v ≡ true
  pub put_keeps : (l l' : L) (v key : ℕ) → w.puts l v key l' → (x : ℕ) → (x ≢ v) → w.waits l' x ≡ w.waits l x
  pub take_waits : (l l' : L) (v : ℕ) → w.takes l (Some v) l' → w.waits l v ≡ true
  pub take_removes : (l l' : L) (v : ℕ) → w.takes l (Some v) l' → w.waits l' v ≡ false
  pub take_keeps : (l l' : L) (v : ℕ) → w.takes l (Some v) l' → (x : ℕ) → (x ≢ v) → w.waits l' x ≡ w.waits l x
  pub take_none : (l l' : L) → w.takes l None l' → Idle w l
  pub take_none_keeps : (l l' : L) → w.takes l None l' → l' ≡ l
  pub clear_empties : (l l' : L) (n : ℕ) → w.clears l n l' → Idle w l'

-- what follows: a put of a waiting node leaves the set as it was; a take names none exactly where none waits
pub record Sets {L : Type 0} (w : Work L) : Type 0 where
  pub put_again : (l l' : L) (v key : ℕ) → w.puts l v key l' → w.waits l v ≡ true → (x : ℕ) → w.waits l' x ≡ w.waits l x
  pub none_if_idle : (l l' : L) (a : Option ℕ) → w.takes l a l' → Idle w l → a ≡ None
  pub idle_if_none : (l l' : L) (a : Option ℕ) → w.takes l a l' → a ≡ None → Idle w l

-- a call refused for the fault F: a figure is out of range, and the list is as it was
pub record Refused {L : Type 0} (F : Type 0) (l : L) (why : Refusal) (l' : L) : Type 0 where
  pub range : why ≡ Range
  pub fault : F
  pub unaltered : l' ≡ l
