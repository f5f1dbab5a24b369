-- The law of VectorFunctionize.
use Rattle.std.specs.Prelude.{◌≡◌, refl}
use Rattle.item_core.specs.declared.edge.Edge.{Edge}
use Rattle.item_core.specs.declared.edge.Edge.TheVariants.{E34, E35, E36, E37, E38}
use Rattle.item_core.specs.declared.family.Family.TheVariants.{VectorFunctionize}
use Rattle.item_core.specs.declared.item.Body.{Body}
use Rattle.item_core.specs.Edge.{edge_entry, family_of, source_of}
use Rattle.item_core.specs.KindOf.{kind_of_body}
use Rattle.bridge_face.specs.BackOf.{back_by}
use Rattle.bridge_face.specs.FamilyLaws.{Sourced, of_another}
use Rattle.bridge_face.specs.ImageOf.{image_by}
use Rattle.bridge_face.specs.OneRowLaws.{UnsummedRule, same_dual}
use Rattle.bridge_face.specs.Sources.{OfKind, vplain_nonnegatives, vplain_nonpositives, vplain_norm_infinity_cone, vplain_norm_one_cone, vplain_zeros}
use Rattle.bridges_shape.specs.FunctionizeLaws.{IsPlainRow, functionize_rule, made, vector}

sourced : (edge : Edge) → family_of edge ≡ VectorFunctionize
    → {b : Body} → OfKind (source_of edge) b → Sourced IsPlainRow made edge b
unfolding edge_entry kind_of_body
sourced E34 own vplain_zeros = record { source = vector refl; leads = refl }
sourced E35 own vplain_nonnegatives = record { source = vector refl; leads = refl }
sourced E36 own vplain_nonpositives = record { source = vector refl; leads = refl }
sourced E37 own vplain_norm_infinity_cone = record { source = vector refl; leads = refl }
sourced E38 own vplain_norm_one_cone = record { source = vector refl; leads = refl }
sourced _ own k = of_another own refl

pub rule : UnsummedRule VectorFunctionize IsPlainRow made same_dual
unfolding image_by back_by
rule =
    functionize_rule
    (record { image = λ edge item. refl; back = λ item ys. refl; sourced = sourced })
    refl refl refl
