-- The law of ObjFunctionize: a plain objective is an affine one of the same variable.
use Rattle.std.specs.Prelude.{refl, ◌≡◌}
use Rattle.aff_core.specs.Address.{Address}
use Rattle.aff_core.specs.declared.sense.Sense.{Sense}
use Rattle.item_core.specs.declared.item.Body.{Body}
use Rattle.item_core.specs.declared.item.Body.TheVariants.{AffineObj, PlainObj}
use Rattle.item_core.specs.declared.edge.Edge.{Edge}
use Rattle.item_core.specs.declared.edge.Edge.TheVariants.{E60, E61}
use Rattle.item_core.specs.declared.family.Family.TheVariants.{ObjFunctionize}
use Rattle.item_core.specs.Edge.{edge_entry, family_of, source_of}
use Rattle.item_core.specs.KindOf.{kind_of_body}
use Rattle.bridge_face.specs.BackOf.{back_by}
use Rattle.bridge_face.specs.FamilyLaws.{Sourced, of_another}
use Rattle.bridge_face.specs.ImageOf.{image_by, sense_of}
use Rattle.bridge_face.specs.Images.{function_of_body}
use Rattle.bridge_face.specs.ObjectiveLaws.{IsObjectiveRule, Replaces}
use Rattle.bridge_face.specs.Sources.{OfKind, max_plain, min_plain}

-- a plain objective
pub data IsPlainObjective : Body → Type 0 where
  plain_objective : {sense : Sense} {var : Address} → IsPlainObjective (PlainObj sense var)

-- what the edges make of it
abbrev pub made : Body → Body
made b = AffineObj (sense_of b) (function_of_body b)

replaces : {b : Body} → IsPlainObjective b → Replaces b (made b)
replaces plain_objective =
    record { source = refl; made = refl; cost = refl; mentioned = λ v m. m }

-- ---- the law

sourced : (edge : Edge) → family_of edge ≡ ObjFunctionize → {b : Body} → OfKind (source_of edge) b
    → Sourced IsPlainObjective made edge b
unfolding edge_entry kind_of_body
sourced E60 own min_plain = record { source = plain_objective; leads = refl }
sourced E61 own max_plain = record { source = plain_objective; leads = refl }
sourced _ own k = of_another own refl

pub rule : IsObjectiveRule ObjFunctionize IsPlainObjective made
unfolding image_by back_by
rule = record {
  rule = record { image = λ edge item. refl; back = λ item ys. refl; sourced = sourced };
  no_growth = refl;
  no_sum = refl;
  replaces = λ b. replaces;
}
