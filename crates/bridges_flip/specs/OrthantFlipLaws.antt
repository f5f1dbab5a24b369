-- The law of OrthantFlip: f ≥ 0 is -f ≤ 0, and f ≤ 0 is -f ≥ 0.
use Rattle.std.specs.Prelude.{List, map, refl, ℕ, ◌≡◌}
use Rattle.item_core.specs.declared.item.Body.TheVariants.{AffineVec}
use Rattle.bridge_face.specs.BackOf.{back_by}
use Rattle.item_core.specs.declared.item.Body.{Body}
use Rattle.item_core.specs.declared.edge.Edge.TheVariants.{E21, E22}
use Rattle.item_core.specs.declared.edge.Edge.{Edge}
use Rattle.bridge_face.specs.ImageOf.{image_by}
use Rattle.bridge_face.specs.OneRowLaws.{UnsummedRule, row}
use Rattle.bridges_flip.specs.FlipLaws.{FlipsTo, flip_rule, flips_to, negated_dual}
use Rattle.aff_core.specs.Function.{Function, negated}
use Rattle.bridge_face.specs.FamilyLaws.{Sourced, of_another}
use Rattle.set_core.specs.declared.set.Set.TheVariants.{Nonnegatives, Nonpositives}
use Rattle.bridge_face.specs.Sources.{OfKind, vaffine_nonnegatives, vaffine_nonpositives}
use Rattle.item_core.specs.declared.family.Family.TheVariants.{OrthantFlip}
use Rattle.item_core.specs.Edge.{edge_entry, family_of, source_of}
use Rattle.item_core.specs.Item.{functions_of, set_of}
use Rattle.item_core.specs.KindOf.{kind_of_body}
use Rattle.set_core.specs.Mirrored.{mirrored}

-- a row of functions with one sign
pub data IsOrthant : Body → Type 0 where
  above : {fs : List Function} {n : ℕ} → IsOrthant (AffineVec fs (Nonnegatives n))
  beneath : {fs : List Function} {n : ℕ} → IsOrthant (AffineVec fs (Nonpositives n))

-- what the edges make of it
abbrev pub made : Body → Body
made b = AffineVec (map negated (functions_of b)) (mirrored (set_of b))

flips : {b : Body} → IsOrthant b → FlipsTo b (made b)
flips above = flips_to (row refl refl) (row refl refl) refl refl refl refl
flips beneath = flips_to (row refl refl) (row refl refl) refl refl refl refl

-- ---- the law

sourced : (edge : Edge) → family_of edge ≡ OrthantFlip → {b : Body} → OfKind (source_of edge) b
    → Sourced IsOrthant made edge b
unfolding edge_entry kind_of_body
sourced E21 own vaffine_nonnegatives = record { source = above; leads = refl }
sourced E22 own vaffine_nonpositives = record { source = beneath; leads = refl }
sourced _ own k = of_another own refl

pub rule : UnsummedRule OrthantFlip IsOrthant made negated_dual
unfolding image_by back_by
rule =
    flip_rule
    (record { image = λ edge item. refl; back = λ item ys. refl; sourced = sourced })
    refl refl refl (λ b. flips)
