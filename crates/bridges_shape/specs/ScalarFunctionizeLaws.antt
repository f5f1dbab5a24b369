-- The law of ScalarFunctionize.
use Rattle.std.specs.Prelude.{◌≡◌, refl}
use Rattle.item_core.specs.declared.edge.Edge.{Edge}
use Rattle.item_core.specs.declared.edge.Edge.TheVariants.{E23, E24, E25, E26}
use Rattle.item_core.specs.declared.family.Family.TheVariants.{ScalarFunctionize}
use Rattle.item_core.specs.declared.item.Body.{Body}
use Rattle.item_core.specs.Edge.{edge_entry, family_of, source_of}
use Rattle.item_core.specs.KindOf.{kind_of_body}
use Rattle.bridge_face.specs.BackOf.{back_by}
use Rattle.bridge_face.specs.FamilyLaws.{Sourced, of_another}
use Rattle.bridge_face.specs.ImageOf.{image_by}
use Rattle.bridge_face.specs.OneRowLaws.{UnsummedRule, same_dual}
use Rattle.bridge_face.specs.Sources.{OfKind, plain_equal_to, plain_greater_than, plain_interval, plain_less_than}
use Rattle.bridges_shape.specs.FunctionizeLaws.{IsPlainRow, functionize_rule, made, number}

sourced : (edge : Edge) → family_of edge ≡ ScalarFunctionize
    → {b : Body} → OfKind (source_of edge) b → Sourced IsPlainRow made edge b
unfolding edge_entry kind_of_body
sourced E23 own plain_less_than = record { source = number refl; leads = refl }
sourced E24 own plain_greater_than = record { source = number refl; leads = refl }
sourced E25 own plain_equal_to = record { source = number refl; leads = refl }
sourced E26 own plain_interval = record { source = number refl; leads = refl }
sourced _ own k = of_another own refl

pub rule : UnsummedRule ScalarFunctionize IsPlainRow made same_dual
unfolding image_by back_by
rule =
    functionize_rule
    (record { image = λ edge item. refl; back = λ item ys. refl; sourced = sourced })
    refl refl refl
