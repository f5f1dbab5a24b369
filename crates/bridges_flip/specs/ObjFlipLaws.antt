-- The law of ObjFlip: the least f is minus the greatest -f.
use Rattle.std.specs.Prelude.{[], refl, ◌∷◌, ◌≡◌}
use Rattle.std.proofs.lemmas.List.Elements.{All-head, All-nil, All-cons}
use Rattle.ratio_core.specs.Rational.{zero_ℚ}
use Rattle.aff_core.specs.Address.{Address}
use Rattle.aff_core.specs.Function.{Function, coefficient, negated}
use Rattle.aff_core.specs.FunctionLaws.{negated-negated}
use Rattle.aff_core.specs.KeyOrder.{address_order}
use Rattle.aff_core.specs.declared.sense.Sense.{Sense}
use Rattle.aff_core.specs.declared.sense.Sense.TheVariants.{Max, Min}
use Rattle.item_core.specs.declared.item.Body.{Body}
use Rattle.item_core.specs.declared.item.Body.TheVariants.{AffineObj}
use Rattle.item_core.specs.declared.edge.Edge.{Edge}
use Rattle.item_core.specs.declared.edge.Edge.TheVariants.{E58, E59}
use Rattle.item_core.specs.declared.family.Family.TheVariants.{ObjFlip}
use Rattle.item_core.specs.Edge.{edge_entry, family_of, source_of}
use Rattle.item_core.specs.KindOf.{kind_of_body}
use Rattle.bridge_face.specs.BackOf.{back_by}
use Rattle.bridge_face.specs.DifferenceLaws.{missed-negated}
use Rattle.bridge_face.specs.FamilyLaws.{Sourced, of_another}
use Rattle.bridge_face.specs.ImageOf.{image_by, opposite, sense_of}
use Rattle.bridge_face.specs.Images.{function_of_body}
use Rattle.bridge_face.specs.Law.{Miss, cost_by}
use Rattle.bridge_face.specs.ObjectiveLaws.{IsAffineObjective, IsObjectiveRule, Replaces, affine_objective}
use Rattle.bridge_face.specs.Sources.{OfKind, max_affine, min_affine}

-- what the edges make of it
abbrev pub made : Body → Body
made b = AffineObj (opposite (sense_of b)) (negated (function_of_body b))

missed_negation : (f : Function) (v : Address) → Miss (f ∷ []) v → Miss (negated f ∷ []) v
missed_negation f v m =
    All-cons (λ f. coefficient f v ≡ zero_ℚ) (negated f) []
    (missed-negated v f (All-head (λ f. coefficient f v ≡ zero_ℚ) f [] m))
    (All-nil (λ f. coefficient f v ≡ zero_ℚ))

same_cost : (sense : Sense) (f : Function)
    → cost_by (opposite sense) (negated f) ≡ cost_by sense f
same_cost Min f = negated-negated address_order f
same_cost Max f = refl

replaces : {b : Body} → IsAffineObjective b → Replaces b (made b)
replaces (affine_objective {sense} {func}) = record {
  source = refl;
  made = refl;
  cost = same_cost sense func;
  mentioned = missed_negation func;
}

-- ---- the law

sourced : (edge : Edge) → family_of edge ≡ ObjFlip → {b : Body} → OfKind (source_of edge) b
    → Sourced IsAffineObjective made edge b
unfolding edge_entry kind_of_body
sourced E58 own min_affine = record { source = affine_objective; leads = refl }
sourced E59 own max_affine = record { source = affine_objective; leads = refl }
sourced _ own k = of_another own refl

pub rule : IsObjectiveRule ObjFlip IsAffineObjective made
unfolding image_by back_by
rule = record {
  rule = record { image = λ edge item. refl; back = λ item ys. refl; sourced = sourced };
  no_growth = refl;
  no_sum = refl;
  replaces = λ b. replaces;
}
