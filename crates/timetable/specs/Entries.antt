-- The entry found is the first minute at which the road may be entered.
use Rattle.std.specs.Prelude.{◌≡◌, ℕ, ◌+◌, ◌-◌, ◌*◌, ◌/◌, ◌%◌, ◌<◌, ◌≤◌, max, Bool, true, false, cond, ◌&&◌, ◌⊎◌, List, [], ◌∷◌, length, nat_le, Some, slice_index_or, refl}
use Rattle.std.specs.List.{find}
use Rattle.std.specs.Option.{option_map_or}
use Rattle.std.proofs.Common.{sym, ap, subst, ◌∙◌, inl, inr, arith, div-add-mod', mod-lt, not-suc-le-zero, add-mul}
use Rattle.std.proofs.lemmas.Nat.{mod-mul-add}
use Rattle.std.proofs.lemmas.Bool.Decides.{nat_tests}
use Rattle.std.proofs.lemmas.Bool.{false≢true, and_from, and_left, and_right, or_from, or_left, or_right, leb-true, leb-false, le-leb, lt-leb, cases_lt, cond_both}
use Rattle.timetable.specs.declared.tables.Interval.{Interval}
use Rattle.timetable.specs.Timetables.{no_interval, inside, Enters, opening, entry, ascending}

-- what the test of the intervals tells
pub record Ascends (period from : ℕ) (i : Interval) (rest : List Interval) : Type 0 where
  pub low : from ≤ i.opens
  pub span : i.opens ≤ i.closes
  pub high : i.closes < period
  pub after : ascending period (i.closes + 1) rest ≡ true

pub ascending_tells : (period from : ℕ) (i : Interval) (rest : List Interval) → ascending period from (i ∷ rest) ≡ true → Ascends period from i rest
ascending_tells period from i rest e = record { low = grind (arith, nat_tests); span = grind (arith, nat_tests); high = grind (arith, nat_tests); after = grind (arith, nat_tests) }

-- the first interval opens within the period
pub first_within : (period from : ℕ) (run : List Interval) → ascending period from run ≡ true → 0 < length run → (slice_index_or run 0 no_interval).opens < period
first_within period from [] e h = absurd (not-suc-le-zero h)
first_within period from (i ∷ rest) e h =
    let t = ascending_tells period from i rest e in
    let s = t.span in let g = t.high in
    omega arith

-- no interval is open before the first may open
pub shut_before : (period from : ℕ) (run : List Interval) (k : ℕ) → ascending period from run ≡ true → k < from → inside run k ≡ false
shut_before period from [] k e h = refl
shut_before period from (i ∷ rest) k e h =
    let t = ascending_tells period from i rest e in
    let l = t.low in let s = t.span in
    or_from _ _ (and_left _ _ (lt-leb i.opens k (omega arith))) (shut_before period (i.closes + 1) rest k t.after (omega arith))

-- the opening is in the first interval that does not close before k
pub opening_by_find : (next k : ℕ) (run : List Interval) → opening next run k ≡ option_map_or (λ (i : Interval). max k i.opens) (find (λ (i : Interval). nat_le k i.closes) run) next
opening_by_find next k [] = refl
opening_by_find next k (i ∷ rest) =
    let shut_or_not : (b : Bool) → cond b (max k i.opens) (opening next rest k) ≡ option_map_or (λ (i : Interval). max k i.opens) (cond b (Some i) (find (λ (i : Interval). nat_le k i.closes) rest)) next =
    elim [ true ↦ refl | false ↦ opening_by_find next k rest ] in
    shut_or_not (nat_le k i.closes)

-- m is the first minute from k on that lies in an interval
pub record Opens (period : ℕ) (run : List Interval) (k m : ℕ) : Type 0 where
  pub from : k ≤ m
  pub within : m < period
  pub opened : inside run m ≡ true
  pub first : (j : ℕ) → k ≤ j → j < m → inside run j ≡ false

-- m is that minute, or there is none and m is `next`
abbrev pub Found : ℕ → ℕ → List Interval → ℕ → ℕ → Type 0
Found period next run k m = Opens period run k m ⊎ ((m ≡ next) × ((j : ℕ) → k ≤ j → inside run j ≡ false))

module _ (period next k : ℕ) (before : k < period) where
  found_here : (from : ℕ) (i : Interval) (rest : List Interval) → ascending period from (i ∷ rest) ≡ true → k ≤ i.closes → Opens period (i ∷ rest) k (max k i.opens)
  found_here from i rest e h =
      let t = ascending_tells period from i rest e in
      let s = t.span in let g = t.high in
      record {
        from = omega arith;
        within = omega arith;
        opened = or_left _ _ (and_from _ _ (le-leb i.opens (max k i.opens) (omega arith)) (le-leb (max k i.opens) i.closes (omega arith)));
        first = λ j p q. or_from _ _ (and_left _ _ (lt-leb i.opens j (omega arith))) (shut_before period (i.closes + 1) rest j t.after (omega arith));
      }

  found_later : (i : Interval) (rest : List Interval) (m : ℕ) → i.closes < k → Found period next rest k m → Found period next (i ∷ rest) k m
  found_later i rest m h f =
      let past : (j : ℕ) → k ≤ j → (nat_le i.opens j && nat_le j i.closes) ≡ false = λ j p. and_right _ _ (lt-leb j i.closes (omega arith)) in
      elim f [
        | inl o ↦ inl record {
          from = o.from;
          within = o.within;
          opened = or_right _ _ o.opened;
          first = λ j p q. or_from _ _ (past j p) (o.first j p q);
        }
        | inr n ↦ inr (n.0, λ j p. or_from _ _ (past j p) (n.1 j p))
      ]

  opening_found : (from : ℕ) (run : List Interval) → ascending period from run ≡ true → Found period next run k (opening next run k)
  opening_found from [] e = inr (refl, λ j p. refl)
  opening_found from (i ∷ rest) e =
      let t = ascending_tells period from i rest e in
      cond_both (nat_le k i.closes) (max k i.opens) (opening next rest k) (Found period next (i ∷ rest) k)
      (λ q. inl (found_here from i rest e (leb-true _ _ q)))
      (λ q. found_later i rest (opening next rest k) (leb-false k i.closes q) (opening_found (i.closes + 1) rest t.after))

-- remainders within a period
remainder : (q period z : ℕ) → q * period ≤ z → z < q * period + period → z % period ≡ z - q * period
remainder q period z h l =
    let e : q * period + (z - q * period) ≡ z = omega arith in
    ap (λ (y : ℕ). y % period) (sym e) ∙ mod-mul-add q period (z - q * period) (omega arith)

-- and within the next
remainder_next : (q period z : ℕ) → q * period + period ≤ z → z < q * period + period + period → z % period ≡ z - (q * period + period)
remainder_next q period z h l =
    let e : (q + 1) * period ≡ q * period + period = omega (arith, add-mul q 1 period) in
    let r = remainder (q + 1) period z (omega arith) (omega arith) in
    omega arith

-- y is the entry, and comes within a period
pub record Entered (period : ℕ) (run : List Interval) (x y : ℕ) : Type 0 where
  pub enters : Enters period run x y
  pub soon : y < x + period

module _ (period q k : ℕ) (before : k < period) where
  -- the minute found, m, lies in the period that x = q * period + k lies in
  entered_now : (run : List Interval) (m : ℕ) → Opens period run k m → Entered period run (q * period + k) (q * period + m)
  entered_now run m o =
      let f = o.from in let w = o.within in
      let now : q * period + m - q * period ≡ m = omega arith in
      record {
        enters = record {
          from = omega arith;
          opened = ap (inside run) (remainder q period (q * period + m) (omega arith) (omega arith) ∙ now) ∙ o.opened;
          first = λ z h l. ap (inside run) (remainder q period z (omega arith) (omega arith)) ∙ o.first (z - q * period) (omega arith) (omega arith);
        };
        soon = omega arith;
      }

  -- none opens any more in that period: the next one's first does
  entered_next : (i : Interval) (rest : List Interval) → ascending period 0 (i ∷ rest) ≡ true → ((j : ℕ) → k ≤ j → inside (i ∷ rest) j ≡ false) → Entered period (i ∷ rest) (q * period + k) (q * period + (period + i.opens))
  entered_next i rest e none =
      let t = ascending_tells period 0 i rest e in
      let s = t.span in let g = t.high in
      let y = q * period + (period + i.opens) in
      let first_opens : inside (i ∷ rest) i.opens ≡ true = or_left _ _ (and_from _ _ (le-leb i.opens i.opens (omega arith)) (le-leb i.opens i.closes s)) in
      let past : i.opens < k = elim (cases_lt i.opens k) [
        | inl h ↦ h
        | inr h ↦ absurd (false≢true (sym (none i.opens h) ∙ first_opens))
      ] in
      let now : y - (q * period + period) ≡ i.opens = omega arith in
      record {
        enters = record {
          from = omega arith;
          opened = ap (inside (i ∷ rest)) (remainder_next q period y (omega arith) (omega arith) ∙ now) ∙ first_opens;
          first = λ z h l. elim (cases_lt z (q * period + period)) [
            | inl b ↦ ap (inside (i ∷ rest)) (remainder q period z (omega arith) b) ∙ none (z - q * period) (omega arith)
            | inr b ↦
                let j = z - (q * period + period) in
                ap (inside (i ∷ rest)) (remainder_next q period z b (omega arith))
                ∙ or_from _ _ (and_left _ _ (lt-leb i.opens j (omega arith))) (shut_before period (i.closes + 1) rest j t.after (omega arith))
          ];
        };
        soon = omega arith;
      }

-- the entry is the first minute from x on at which the road may be entered, and comes within a period
pub entry_entered : (period : ℕ) (run : List Interval) (x : ℕ) → ascending period 0 run ≡ true → 0 < length run → Entered period run x (entry period run x)
entry_entered period [] x e h = absurd (not-suc-le-zero h)
entry_entered period (i ∷ rest) x e h =
    let t = ascending_tells period 0 i rest e in
    let g = t.high in
    let q = x / period in let k = x % period in
    let before : k < period = mod-lt x (omega arith) in
    let m = opening (period + i.opens) (i ∷ rest) k in
    let parts : q * period + k ≡ x = div-add-mod' x period in
    let whole : q * period + m ≡ x - k + m = omega arith in
    let there : Entered period (i ∷ rest) (q * period + k) (q * period + m) = elim (opening_found period (period + i.opens) k before 0 (i ∷ rest) e) [
      | inl o ↦ entered_now period q k before (i ∷ rest) m o
      | inr n ↦ subst (λ (m : ℕ). Entered period (i ∷ rest) (q * period + k) (q * period + m)) (sym n.0) (entered_next period q k before i rest e n.1)
    ] in
    subst (λ (y : ℕ). Entered period (i ∷ rest) x y) whole (subst (λ (x : ℕ). Entered period (i ∷ rest) x (q * period + m)) parts there)

-- who is there later does not enter earlier
pub enters_order : (period : ℕ) (run : List Interval) (x x' y y' : ℕ) → Enters period run x y → Enters period run x' y' → x ≤ x' → y ≤ y'
enters_order period run x x' y y' a b h =
    let f = b.from in
    elim (cases_lt y' y) [
      | inl l ↦ absurd (false≢true (sym (a.first y' (omega arith) l) ∙ b.opened))
      | inr l ↦ l
    ]

-- there is one first minute
pub enters_once : (period : ℕ) (run : List Interval) (x y z : ℕ) → Enters period run x y → Enters period run x z → y ≡ z
enters_once period run x y z a b =
    let l = enters_order period run x x y z a b (omega arith) in
    let r = enters_order period run x x z y b a (omega arith) in
    omega arith

pub entry_soon : (period : ℕ) (run : List Interval) (x : ℕ) → ascending period 0 run ≡ true → 0 < length run → entry period run x < x + period
entry_soon period run x e h = (entry_entered period run x e h).soon
