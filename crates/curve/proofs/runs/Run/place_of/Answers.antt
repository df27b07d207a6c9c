use Rattle.std.proofs.Common.{◌≡◌, ◌+◌, ◌-◌, ◌<◌, ◌≤◌, ℕ, true, false, List, length, get_or, take, drop, leb, leb-true, leb-false, inl, inr, subst, sym, arith, rules}
use Rattle.std.proofs.lemmas.Bool.{cases_lt}
use Rattle.std.proofs.lemmas.List.{get_or-drop, length-drop, take_all}
use Rattle.std.proofs.lemmas.List.Sorted.{IsPartitionPoint-from_clause, IsPartitionedBy-leb}
use Rattle.std.specs.List.Sorted.{IsNonDecreasingBy, IsPartitionPoint}
use Rattle.curve.specs.Curve.{no_point}
use Rattle.curve.specs.declared.points.Point.{Point}
use Rattle.curve.specs.Runs.{climbing_after, departures_rise}
use Rattle.curve.proofs.runs.Run.place_of.Goals as goal

-- the points after the first, as the slice of them reads
after : (ps : List Point) → take (length ps - 1) (drop 1 ps) ≡ drop 1 ps
after ps = take_all (length ps - 1) (drop 1 ps) (omega (arith, length-drop 1 ps))

-- of the points after the first, those before the result set out at x or before, and those from it on do not
pub parted : (c : goal.After-partition_point) → IsPartitionPoint (λ p. leb p.departure c.args.x ≡ true) (λ p. leb p.departure c.args.x ≡ false) (drop 1 c.args.self.now.points.now) c.partition_point.result
parted c =
    let ps = c.args.self.now.points.now in
    let rise = subst (λ (qs : List Point). IsNonDecreasingBy (λ (p : Point). p.departure) qs) (sym (after ps)) (departures_rise _ (climbing_after ps c.args.self.now.climbs)) in
    subst (λ (qs : List Point). IsPartitionPoint (λ p. leb p.departure c.args.x ≡ true) (λ p. leb p.departure c.args.x ≡ false) qs c.partition_point.result) (after ps)
    (IsPartitionPoint-from_clause (λ p. leb p.departure c.args.x) _ _ c.partition_point.ensures.partitioned (IsPartitionedBy-leb (λ p. p.departure) _ c.args.x rise) (λ a r q k. search rules))

pub returns : goal.returns
returns c =
    let ps = c.args.self.now.points.now in
    let k = c.partition_point.result in
    let some = c.args.self.now.some in
    let bound : k ≤ length (take (length ps - 1) (drop 1 ps)) = c.partition_point.ensures.bound in
    let few : k ≤ length ps - 1 = omega (arith, subst (λ (qs : List Point). k ≤ length qs) (after ps) bound, length-drop 1 ps) in
    let read : (i : ℕ) → get_or (drop 1 ps) i no_point ≡ get_or ps (i + 1) no_point =
    λ i. let s : 1 + i ≡ i + 1 = omega arith in subst (λ (j : ℕ). get_or (drop 1 ps) i no_point ≡ get_or ps j no_point) s (get_or-drop 1 ps i no_point) in
    record {
      last = record {
        inside = omega (arith, few, some);
        from = elim (cases_lt 0 k) [
          | inl past ↦
              let e : k - 1 + 1 ≡ k = omega arith in
              let t = leb-true _ _ ((parted c).0 (k - 1) no_point (omega arith) (omega arith)) in
              subst (λ (j : ℕ). (get_or ps j no_point).departure ≤ c.args.x) e (subst (λ (p : Point). p.departure ≤ c.args.x) (read (k - 1)) t)
          | inr none ↦
              let e : 0 ≡ k = omega arith in
              subst (λ (j : ℕ). (get_or ps j no_point).departure ≤ c.args.x) e c.requires.begins
        ];
        to = λ h.
            let t = leb-false _ _ ((parted c).1 k no_point (omega arith) (omega (arith, length-drop 1 ps, h))) in
            subst (λ (p : Point). c.args.x < p.departure) (read k) t;
      };
    }
