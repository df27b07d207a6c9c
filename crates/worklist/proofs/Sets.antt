-- What follows from the laws of a work list.
use Rattle.std.proofs.Common.{◌≡◌, ℕ, true, Some, None, Option, sym, refl, ap, ◌∙◌, ⊎_elim, arith}
use Rattle.std.proofs.lemmas.Bool.{cases_eq, both_ways}
use Rattle.worklist.specs.Work.{Work, Orderly, Idle, Sets}

module _ {L : Type 0} (w : Work L) (o : Orderly w) where
  put_again : (l m : L) (v key : ℕ) → w.puts l v key m → w.waits l v ≡ true → (x : ℕ) → w.waits m x ≡ w.waits l x
  put_again l m v key p e x = ⊎_elim
      (λ (s : x ≡ v). ap (w.waits m) s ∙ o.put_adds l m v key p ∙ sym (ap (w.waits l) s ∙ e))
      (o.put_keeps l m v key p x)
      (cases_eq x v)

  none_if_idle : (l m : L) (a : Option ℕ) → w.takes l a m → Idle w l → a ≡ None
  none_if_idle l m None p idle = refl
  none_if_idle l m (Some v) p idle = absurd (both_ways (w.waits l v) (idle v) (o.take_waits l m v p))

  idle_if_none : (l m : L) (a : Option ℕ) → w.takes l a m → a ≡ None → Idle w l
  idle_if_none l m None p e = o.take_none l m p
  idle_if_none l m (Some v) p e = let z : ◌≡◌ {A = ℕ} 0 1 = cc in absurd (omega arith)

  pub sets : Sets w
  sets = record { put_again = put_again; none_if_idle = none_if_idle; idle_if_none = idle_if_none }
