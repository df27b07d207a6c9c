-- The test of a road is its rule.
use Rattle.std.specs.Prelude.{◌≡◌, ℕ, zero, suc, ◌+◌, ◌-◌, ◌<◌, ◌≤◌, Bool, true, false, ◌&&◌, List, [], ◌∷◌, length, get_or, take, drop, nat_le, nat_lt, Decides, slice_index_or, refl}
use Rattle.std.proofs.Common.{suc-le-suc, sym, ap, subst, ◌∙◌, inl, inr, arith, not-suc-le-zero, le_of_suc-le-suc}
use Rattle.std.proofs.lemmas.Bool.Decides.{nat_tests}
use Rattle.std.proofs.lemmas.List.{length-drop, length-take-le, get_or-take, get_or-drop, take_all}
use Rattle.std.proofs.lemmas.Bool.{and_parts, and_from, ltb-true, leb-true, lt-ltb, le-leb, and_left, and_right, both_ways, false_from_ne_true, cases_Bool, false≢true}
use Rattle.std.proofs.lemmas.List.Elements.{All-from_get_or}
use Rattle.std.proofs.lemmas.List.Sums.{AllPass-from_list_all, list_all-from_AllPass}
use Rattle.std.specs.List.{IsAllAdjacentAnswer, list_all, zip}
use Rattle.timetable.specs.declared.tables.Interval.{Interval}
use Rattle.timetable.specs.declared.tables.TimedRoad.{TimedRoad}
use Rattle.timetable.specs.Timetables.{no_interval, ascending, lies_within, interval_of, KeepsRule, run_of, road_right}
use Rattle.timetable.specs.Entries.{ascending_tells}

-- what the test of a road tells
pub record Rule (n : ℕ) (intervals : List Interval) (road : TimedRoad) : Type 0 where
  pub tail : road.tail < n
  pub head : road.head < n
  pub period : (1 ≤ road.period) × (road.period ≤ 5000)
  pub time : (1 ≤ road.time) × (road.time ≤ 5000)
  pub inside : road.first + road.count ≤ length intervals
  pub some : 1 ≤ road.count
  pub ascends : ascending road.period 0 (run_of intervals road) ≡ true

pub rule_tells : (n : ℕ) (intervals : List Interval) (road : TimedRoad) → road_right n intervals road ≡ true → Rule n intervals road
rule_tells n intervals road e = record {
  tail = grind (arith, nat_tests);
  head = grind (arith, nat_tests);
  period = (grind (arith, nat_tests), grind (arith, nat_tests));
  time = (grind (arith, nat_tests), grind (arith, nat_tests));
  inside = grind (arith, nat_tests);
  some = grind (arith, nat_tests);
  ascends = grind (arith, nat_tests);
}

-- a run inside the table has as many intervals as its road says
pub run_length : (n : ℕ) (intervals : List Interval) (road : TimedRoad) → Rule n intervals road → length (run_of intervals road) ≡ road.count
run_length n intervals road rule =
    let i = rule.inside in
    length-take-le road.count (drop road.first intervals) (omega (arith, length-drop road.first intervals))

-- what ascending intervals tell, interval by interval
interval_at : (period from : ℕ) (run : List Interval) (i : ℕ) → ascending period from run ≡ true → i < length run → ((get_or run i no_interval).opens ≤ (get_or run i no_interval).closes) × ((get_or run i no_interval).closes < period)
interval_at period from [] i e h = absurd (not-suc-le-zero h)
interval_at period from (v ∷ rest) zero e h = let t = ascending_tells period from v rest e in (t.span, t.high)
interval_at period from (v ∷ rest) (suc i) e h = interval_at period (v.closes + 1) rest i (ascending_tells period from v rest e).after (le_of_suc-le-suc h)

apart_at : (period from : ℕ) (run : List Interval) (i : ℕ) → ascending period from run ≡ true → i + 1 < length run → (get_or run i no_interval).closes < (get_or run (i + 1) no_interval).opens
apart_at period from [] i e h = absurd (omega (arith, h))
apart_at period from (v ∷ []) i e h = absurd (omega (arith, h))
apart_at period from (v ∷ (w ∷ rest)) zero e h =
    let l = (ascending_tells period (v.closes + 1) w rest (ascending_tells period from v (w ∷ rest) e).after).low in
    omega arith
apart_at period from (v ∷ (w ∷ rest)) (suc i) e h =
    let s : suc i + 1 ≡ suc (i + 1) = omega arith in
    subst (λ (j : ℕ). (get_or (w ∷ rest) i no_interval).closes < (get_or (v ∷ (w ∷ rest)) j no_interval).opens) (sym s)
    (apart_at period (v.closes + 1) (w ∷ rest) i (ascending_tells period from v (w ∷ rest) e).after (omega arith))

-- and from what they tell
ascending_from : (period from : ℕ) (run : List Interval) → (0 < length run → from ≤ (get_or run 0 no_interval).opens) → ((i : ℕ) → i < length run → ((get_or run i no_interval).opens ≤ (get_or run i no_interval).closes) × ((get_or run i no_interval).closes < period)) → ((i : ℕ) → i + 1 < length run → (get_or run i no_interval).closes < (get_or run (i + 1) no_interval).opens) → ascending period from run ≡ true
ascending_from period from [] low each apart = refl
ascending_from period from (v ∷ rest) low each apart =
    let here = each 0 (omega arith) in
    let next : 0 < length rest → v.closes + 1 ≤ (get_or rest 0 no_interval).opens = λ h. let a = apart 0 (omega arith) in omega arith in
    and_from _ _ (le-leb from v.opens (low (omega arith)))
    (and_from _ _ (le-leb v.opens v.closes here.0)
    (and_from _ _ (lt-ltb v.closes period here.1)
    (ascending_from period (v.closes + 1) rest next (λ i h. each (suc i) (suc-le-suc h)) (λ i h.
    let s : suc i + 1 ≡ suc (i + 1) = omega arith in
    subst (λ (j : ℕ). (get_or rest i no_interval).closes < (get_or (v ∷ rest) j no_interval).opens) s (apart (suc i) (omega arith))))))

pub each_within : (period : ℕ) (run : List Interval) → ascending period 0 run ≡ true → list_all (lies_within period) run ≡ true
each_within period run e =
    list_all-from_AllPass (lies_within period) run (All-from_get_or (λ v. lies_within period v ≡ true) run no_interval (λ i h.
    let t = interval_at period 0 run i e h in and_from _ _ (le-leb _ _ t.0) (lt-ltb _ _ t.1)))

-- intervals ascend exactly where each lies within the period and opens after the one before has closed
pub ascending_answered : (period : ℕ) (run : List Interval) (apart : Bool) → IsAllAdjacentAnswer (λ i j b. b ≡ nat_lt i.closes j.opens) run apart → ascending period 0 run ≡ (list_all (lies_within period) run && apart)
ascending_answered period run true told =
    elim (cases_Bool (list_all (lies_within period) run)) [
      | inl all ↦
          let each : (i : ℕ) → i < length run → ((get_or run i no_interval).opens ≤ (get_or run i no_interval).closes) × ((get_or run i no_interval).closes < period) =
          λ i h. let t = and_parts _ _ (AllPass-from_list_all (lies_within period) run all i no_interval h) in (leb-true _ _ t.0, ltb-true _ _ t.1) in
          ascending_from period 0 run (λ h. omega arith) each (λ i h. ltb-true _ _ (sym (told i no_interval h))) ∙ sym (and_from _ _ all refl)
      | inr some ↦ false_from_ne_true _ (λ e. both_ways _ some (each_within period run e)) ∙ sym (and_left _ _ some)
    ]
ascending_answered period run false told =
    false_from_ne_true _ (λ e. false≢true (told.2 no_interval ∙ lt-ltb _ _ (apart_at period 0 run told.0 e told.1))) ∙ sym (and_right (list_all (lies_within period) run) false refl)

-- of two intervals, the second lies within the period and opens after the first has closed
abbrev pub follows : ℕ → Interval × Interval → Bool
follows period p = nat_lt p.0.closes p.1.opens && lies_within period p.1

regrouped : (a b c : Bool) → (a && (b && c)) ≡ ((a && b) && c)
regrouped true b c = refl
regrouped false b c = refl

ascending_pairs : (period from : ℕ) (v : Interval) (rest : List Interval) → ascending period from (v ∷ rest) ≡ (nat_le from v.opens && (lies_within period v && list_all (follows period) (zip (v ∷ rest) rest)))
ascending_pairs period from v [] = ap (λ (b : Bool). nat_le from v.opens && b) (regrouped (nat_le v.opens v.closes) (nat_lt v.closes period) true)
ascending_pairs period from v (w ∷ ws) =
    let next : v.closes + 1 ≡ suc v.closes = omega arith in
    let tests : nat_le (v.closes + 1) w.opens ≡ nat_lt v.closes w.opens = ap (λ (n : ℕ). nat_le n w.opens) next in
    let after = ascending_pairs period (v.closes + 1) w ws
    ∙ ap (λ (b : Bool). b && (lies_within period w && list_all (follows period) (zip (w ∷ ws) ws))) tests
    ∙ regrouped (nat_lt v.closes w.opens) (lies_within period w) (list_all (follows period) (zip (w ∷ ws) ws)) in
    ap (λ (b : Bool). nat_le from v.opens && b)
    (regrouped (nat_le v.opens v.closes) (nat_lt v.closes period) (ascending period (v.closes + 1) (w ∷ ws)) ∙ ap (λ (b : Bool). lies_within period v && b) after)

-- intervals ascend exactly where the first lies within the period and each other follows the one before
pub ascending_by_pairs : (period : ℕ) (run : List Interval) (d : Interval) → 0 < length run → ascending period 0 run ≡ (lies_within period (get_or run 0 d) && list_all (follows period) (zip run (take (length run - 1) (drop 1 run))))
ascending_by_pairs period [] d some = absurd (not-suc-le-zero some)
ascending_by_pairs period (v ∷ rest) d some =
    let all : take (length (v ∷ rest) - 1) rest ≡ rest = take_all (length (v ∷ rest) - 1) rest (omega arith) in
    ascending_pairs period 0 v rest
    ∙ ap (λ (b : Bool). b && (lies_within period v && list_all (follows period) (zip (v ∷ rest) rest))) (le-leb 0 v.opens (omega arith))
    ∙ ap (λ (next : List Interval). lies_within period v && list_all (follows period) (zip (v ∷ rest) next)) (sym all)

module _ (n : ℕ) (intervals : List Interval) (road : TimedRoad) where
  -- the intervals of a run are those of its road
  interval_is : (i : ℕ) → i < road.count → slice_index_or (run_of intervals road) i no_interval ≡ interval_of intervals road i
  interval_is i h = get_or-take road.count (drop road.first intervals) i no_interval h ∙ get_or-drop road.first intervals i no_interval

  pub rule_kept : road_right n intervals road ≡ true → KeepsRule n intervals road
  rule_kept e =
      let rule = rule_tells n intervals road e in
      let run = run_of intervals road in
      let size = run_length n intervals road rule in
      let each : (i : ℕ) → i < road.count → ((interval_of intervals road i).opens ≤ (interval_of intervals road i).closes) × ((interval_of intervals road i).closes < road.period) =
      λ i h. rw (← interval_is i h) (interval_at road.period 0 run i rule.ascends (omega arith)) in
      record {
        tail_below = rule.tail;
        head_below = rule.head;
        period = rule.period;
        time = rule.time;
        inside = rule.inside;
        some = rule.some;
        spans = λ i h. (each i h).0;
        within = λ i h. (each i h).1;
        apart = λ i h. rw (← interval_is i (omega arith), ← interval_is (i + 1) h) (apart_at road.period 0 run i rule.ascends (omega arith));
      }

  pub rule_tested : KeepsRule n intervals road → road_right n intervals road ≡ true
  rule_tested k =
      let run = run_of intervals road in
      let i = k.inside in
      let size : length run ≡ road.count = length-take-le road.count (drop road.first intervals) (omega (arith, length-drop road.first intervals)) in
      let ascends = ascending_from road.period 0 run (λ h. omega arith)
      (λ i h. rw (interval_is i (omega arith)) (k.spans i (omega arith), k.within i (omega arith)))
      (λ i h. rw (interval_is i (omega arith), interval_is (i + 1) (omega arith)) (k.apart i (omega arith))) in
      let t = k.tail_below in let h = k.head_below in let s = k.some in let p = k.period in let m = k.time in
      grind (arith, nat_tests)

  pub rule_decided : Decides (road_right n intervals road) (KeepsRule n intervals road)
  rule_decided = (rule_kept, rule_tested)
