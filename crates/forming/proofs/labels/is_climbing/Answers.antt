use Rattle.std.proofs.Common.{◌≡◌, ℕ, ◌+◌, ◌<◌, Bool, true, false, List, [], length, map, get_or, sym, ap, ◌∙◌, inl, inr, arith, rules}
use Rattle.std.proofs.lemmas.Bool.{false≢true, cases_Bool}
use Rattle.std.proofs.lemmas.List.{get_or-map, length-map}
use Rattle.std.proofs.lemmas.List.Sorted.{answers_always}
use Rattle.std.specs.List.{IsAllAdjacentAnswer}
use Rattle.curve.specs.declared.points.Point.{Point}
use Rattle.curve.specs.Curve.{no_point, climbs, climbing}
use Rattle.curve.specs.Runs.{climbs_at, climbing_from_pairs}
use Rattle.rows.specs.Rows.{point_of}
use Rattle.forming.proofs.labels.is_climbing.Goals as goal

abbrev climbs_pair : List ℕ → List ℕ → Bool
climbs_pair p q = climbs (point_of p) (point_of q)

-- two pairs next to each other, as points
adjacent : (pairs : List (List ℕ)) (i : ℕ) → i + 1 < length pairs → climbs (get_or (map point_of pairs) i no_point) (get_or (map point_of pairs) (i + 1) no_point) ≡ climbs_pair (get_or pairs i []) (get_or pairs (i + 1) [])
adjacent pairs i lt =
    ap (λ (p : Point). climbs p (get_or (map point_of pairs) (i + 1) no_point)) (get_or-map point_of pairs i [] no_point (omega arith))
    ∙ ap (climbs (point_of (get_or pairs i []))) (get_or-map point_of pairs (i + 1) [] no_point lt)

answered : (pairs : List (List ℕ)) (r : Bool) → IsAllAdjacentAnswer (λ p q b. b ≡ climbs_pair p q) pairs r → r ≡ climbing (map point_of pairs)
answered pairs true each = sym (climbing_from_pairs (map point_of pairs) (λ i h. adjacent pairs i (omega (arith, h, length-map pairs point_of)) ∙ sym (each i [] (omega (arith, h, length-map pairs point_of)))))
answered pairs false some =
    elim (cases_Bool (climbing (map point_of pairs))) [
      | inl e ↦ absurd (false≢true (some.2 [] ∙ sym (adjacent pairs some.0 some.1) ∙ climbs_at (map point_of pairs) some.0 e (omega (arith, some.1, length-map pairs point_of))))
      | inr e ↦ sym e
    ]

pub returns : goal.returns
returns c = record { climbs_or_not = answered _ _ (c.is_sorted_by.ensures.cases climbs_pair (answers_always _ _ _ (λ f a r g h. search rules))) }
