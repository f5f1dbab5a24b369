-- The law of GreaterLess: f ≤ u is -f ≥ -u, and f ≥ l is -f ≤ -l.
use Rattle.std.specs.Prelude.{◌≡◌, refl}
use Rattle.ratio_core.specs.Rational.{Rational}
use Rattle.aff_core.specs.Address.{Address}
use Rattle.aff_core.specs.Function.{Function, negated}
use Rattle.set_core.specs.declared.set.Set.TheVariants.{GreaterThan, LessThan}
use Rattle.set_core.specs.Mirrored.{mirrored}
use Rattle.item_core.specs.declared.edge.Edge.{Edge}
use Rattle.item_core.specs.declared.edge.Edge.TheVariants.{E1, E2, E3, E4}
use Rattle.item_core.specs.declared.family.Family.TheVariants.{GreaterLess}
use Rattle.item_core.specs.declared.item.Body.{Body}
use Rattle.item_core.specs.declared.item.Body.TheVariants.{Affine, Plain}
use Rattle.item_core.specs.Edge.{edge_entry, family_of, source_of}
use Rattle.item_core.specs.Item.{set_of}
use Rattle.item_core.specs.KindOf.{kind_of_body}
use Rattle.bridge_face.specs.BackOf.{back_by}
use Rattle.bridge_face.specs.FamilyLaws.{Sourced, of_another}
use Rattle.bridge_face.specs.ImageOf.{image_by}
use Rattle.bridge_face.specs.OneRowLaws.{UnsummedRule, row}
use Rattle.bridge_face.specs.Images.{function_of_body}
use Rattle.bridge_face.specs.Sources.{OfKind, affine_greater_than, affine_less_than, plain_greater_than, plain_less_than}
use Rattle.bridges_flip.specs.FlipLaws.{FlipsTo, flip_rule, flips_to, negated_dual}

-- a row with one bound
pub data IsBound : Body → Type 0 where
  plain_below : {v : Address} {u : Rational} → IsBound (Plain v (LessThan u))
  plain_above : {v : Address} {l : Rational} → IsBound (Plain v (GreaterThan l))
  affine_below : {f : Function} {u : Rational} → IsBound (Affine f (LessThan u))
  affine_above : {f : Function} {l : Rational} → IsBound (Affine f (GreaterThan l))

-- what the edges make of it
abbrev pub made : Body → Body
made b = Affine (negated (function_of_body b)) (mirrored (set_of b))

flips : {b : Body} → IsBound b → FlipsTo b (made b)
flips plain_below = flips_to (row refl refl) (row refl refl) refl refl refl refl
flips plain_above = flips_to (row refl refl) (row refl refl) refl refl refl refl
flips affine_below = flips_to (row refl refl) (row refl refl) refl refl refl refl
flips affine_above = flips_to (row refl refl) (row refl refl) refl refl refl refl

-- ---- the law

sourced : (edge : Edge) → family_of edge ≡ GreaterLess → {b : Body} → OfKind (source_of edge) b
    → Sourced IsBound made edge b
unfolding edge_entry kind_of_body
sourced E1 own plain_less_than = record { source = plain_below; leads = refl }
sourced E2 own affine_less_than = record { source = affine_below; leads = refl }
sourced E3 own plain_greater_than = record { source = plain_above; leads = refl }
sourced E4 own affine_greater_than = record { source = affine_above; leads = refl }
sourced _ own k = of_another own refl

pub rule : UnsummedRule GreaterLess IsBound made negated_dual
unfolding image_by back_by
rule =
    flip_rule
    (record { image = λ edge item. refl; back = λ item ys. refl; sourced = sourced })
    refl refl refl (λ b. flips)
