use Rattle.std.proofs.Common.{◌≡◌, Bool, true, false, List, sym, ◌∙◌, inl, inr, rules}
use Rattle.std.proofs.lemmas.Bool.{false≢true, cases_Bool}
use Rattle.std.proofs.lemmas.List.Sorted.{answers_always}
use Rattle.std.specs.List.{IsAllAdjacentAnswer}
use Rattle.curve.specs.declared.points.Point.{Point}
use Rattle.curve.specs.Curve.{no_point, climbs, climbing}
use Rattle.curve.specs.Runs.{climbs_at, climbing_from_pairs}
use Rattle.curve.proofs.runs.is_climbing.Goals as goal

answered : (ps : List Point) (r : Bool) → IsAllAdjacentAnswer (λ p q b. b ≡ climbs p q) ps r → r ≡ climbing ps
answered ps true each = sym (climbing_from_pairs ps (λ i h. sym (each i no_point h)))
answered ps false some =
    elim (cases_Bool (climbing ps)) [
      | inl e ↦ absurd (false≢true (some.2 no_point ∙ climbs_at ps some.0 e some.1))
      | inr e ↦ sym e
    ]

pub returns : goal.returns
returns c = record { whether_climbing = answered _ _ (c.is_sorted_by.ensures.cases climbs (answers_always _ _ _ (λ f a r g h. search rules))) }
