use Rattle.std.proofs.Common.{◌≡◌, ℕ, ◌<◌, ◌≤◌, Bool, true, false, MatchBool, nat_le, ◌&&◌, List, length, get_or, sym, refl, ap, ◌∙◌, arith}
use Rattle.std.specs.List.{list_all, zip}
use Rattle.std.proofs.lemmas.Bool.{and_parts, eqb-false, leb-true}
use Rattle.std.proofs.lemmas.List.Folds.{list_all_at}
use Rattle.std.proofs.lemmas.List.Sorted.{non_decreasing_from_is_sorted}
use Rattle.std.proofs.lemmas.Slice.Zip.{get_or-zip, length-zip}
use Rattle.corridor.proofs.tests.are_curves.Goals as goal

abbrev Within : ℕ × ℕ → Bool
Within p = nat_le p.0 p.1 && nat_le p.1 1000

when : {P : Type 0} (b : Bool) → (true ≡ b → P) → MatchBool b P (Unit {0})
when true f = f refl
when false f = tt

-- what the test of all tells of each
each : (lo up : List ℕ) (i : ℕ) → length up ≡ length lo → true ≡ list_all Within (zip lo up) → i < length lo → (get_or lo i 0 ≤ get_or up i 0) × (get_or up i 0 ≤ 1000)
each lo up i same all room = decide (Within (get_or lo i 0, get_or up i 0)) refl
  where
    at : Within (get_or (zip lo up) i (0, 0)) ≡ Within (get_or lo i 0, get_or up i 0)
    at = ap Within (get_or-zip lo up i (0, 0) room (omega (arith, same)))

    decide : (b : Bool) → Within (get_or lo i 0, get_or up i 0) ≡ b → (get_or lo i 0 ≤ get_or up i 0) × (get_or up i 0 ≤ 1000)
    decide true e = let a = and_parts _ _ e in (leb-true _ _ a.0, leb-true _ _ a.1)
    decide false e = let no : true ≡ false = all ∙ list_all_at Within (zip lo up) i (0, 0) (omega (arith, length-zip lo up, same)) (at ∙ e) in absurd (cc no)

pub returns-then-is_sorted : goal.returns-then-is_sorted
returns-then-is_sorted c =
    let lo = c.args.lo.now in
    let up = c.args.up.now in
    let some = eqb-false _ _ (sym c.if-is_empty.ensures) in
    let rises = non_decreasing_from_is_sorted up true c.if-is_sorted.ensures.cases in
    record {
      curves_if_so = when c.are_ordered.result (λ e.
          let all = e ∙ c.are_ordered.ensures.in_order in
          record {
            same = omega arith;
            some = omega arith;
            short = omega arith;
            ordered = λ t l. (each lo up t (omega arith) all (omega arith)).0;
            rising = λ t u l m. rises t u 0 l (omega arith);
            small = λ t l. omega (arith, (each lo up t (omega arith) all (omega arith)).1);
          });
    }
