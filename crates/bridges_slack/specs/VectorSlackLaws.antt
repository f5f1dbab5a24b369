-- The law of VectorSlack: f in S is s in S and f - s = 0.
use Rattle.std.specs.Prelude.{All, List, [], refl, ℕ, ◌∷◌, ◌≡◌}
use Rattle.std.proofs.Common.{ap}
use Rattle.aff_core.specs.Address.{Address}
use Rattle.item_core.specs.declared.item.Body.TheVariants.{AffineVec, Group}
use Rattle.bridge_face.specs.BackOf.{back_by, first_of, size}
use Rattle.item_core.specs.declared.item.Body.{Body}
use Rattle.item_core.specs.declared.edge.Edge.TheVariants.{E27, E28, E29, E30}
use Rattle.item_core.specs.declared.edge.Edge.{Edge}
use Rattle.bridge_face.specs.Law.{LeadsToKind, Miss, growth}
use Rattle.bridge_face.specs.ImageOf.{differences, image_by, inner, inner_functions, vector_slack}
use Rattle.item_core.specs.Valid.{IsValidItem}
use Rattle.aff_core.specs.Function.{Function}
use Rattle.bridge_face.specs.OneRowLaws.{IsRowBody}
use Rattle.item_core.specs.declared.item.Item.{Item}
use Rattle.bridge_face.specs.FamilyLaws.{Rule, back_is, of_another}
use Rattle.set_core.specs.declared.set.Set.TheVariants.{Nonnegatives, Nonpositives, NormInfinityCone, NormOneCone, Zeros}
use Rattle.bridge_face.specs.GroupLaws.{IsGroupRule}
use Rattle.bridge_face.specs.Sources.{OfKind, vaffine_nonnegatives, vaffine_nonpositives, vaffine_norm_infinity_cone, vaffine_norm_one_cone}
use Rattle.item_core.specs.declared.family.Family.TheVariants.{VectorSlack}
use Rattle.item_core.specs.Edge.{edge_entry, family_of, source_of}
use Rattle.item_core.specs.Item.{functions_of, set_of}
use Rattle.item_core.specs.KindOf.{kind_of_body}
use Rattle.bridge_face.specs.ComponentLaws.{misses_inner}
use Rattle.bridges_slack.specs.SlackLaws.{slack_law}

-- an affine row in a cone
pub data InCone : Body → Type 0 where
  nonnegative : {fs : List Function} {n : ℕ} → InCone (AffineVec fs (Nonnegatives n))
  nonpositive : {fs : List Function} {n : ℕ} → InCone (AffineVec fs (Nonpositives n))
  norm_infinity : {fs : List Function} {n : ℕ} → InCone (AffineVec fs (NormInfinityCone n))
  norm_one : {fs : List Function} {n : ℕ} → InCone (AffineVec fs (NormOneCone n))

-- the row that the edges make of it
abbrev pub made : Item → Body
made item =
    AffineVec (differences (functions_of item.body) (inner_functions item (size item)))
    (Zeros (size item))

pub record VectorSlackSourced (edge : Edge) (b : Body) : Type 0 where
  pub cone : InCone b
  leads : (vars : List Address) → LeadsToKind edge (Group (set_of b) vars)
  row_leads : (fs : List Function) (n : ℕ) → LeadsToKind edge (AffineVec fs (Zeros n))

sourced : (edge : Edge) → family_of edge ≡ VectorSlack → {b : Body} → OfKind (source_of edge) b
    → VectorSlackSourced edge b
unfolding edge_entry kind_of_body
sourced E27 own vaffine_nonnegatives =
    record { cone = nonnegative; leads = λ vars. refl; row_leads = λ fs n. refl }
sourced E28 own vaffine_nonpositives =
    record { cone = nonpositive; leads = λ vars. refl; row_leads = λ fs n. refl }
sourced E29 own vaffine_norm_infinity_cone =
    record { cone = norm_infinity; leads = λ vars. refl; row_leads = λ fs n. refl }
sourced E30 own vaffine_norm_one_cone =
    record { cone = norm_one; leads = λ vars. refl; row_leads = λ fs n. refl }
sourced _ own k = of_another own refl

vector_slack_rule : Rule VectorSlack VectorSlackSourced (λ edge. vector_slack) (λ item. first_of)
unfolding image_by back_by
vector_slack_rule = record { image = λ edge item. refl; back = λ item ys. refl; sourced = sourced }

row : {b : Body} → InCone b → IsRowBody b
row nonnegative = record { no_group = refl; no_objective = refl }
row nonpositive = record { no_group = refl; no_objective = refl }
row norm_infinity = record { no_group = refl; no_objective = refl }
row norm_one = record { no_group = refl; no_objective = refl }

-- ---- the law

-- the row names none of the components
pub absent : (item : Item) → IsValidItem item → InCone item.body
    → All (λ v. Miss (functions_of item.body) v) (inner item (size item))
absent item valid cone =
    misses_inner item.at (size item) (functions_of item.body) (valid.others (row cone).no_group)

pub rule : IsGroupRule VectorSlack VectorSlackSourced (λ edge. vector_slack) 1
rule = record {
  carry = λ item. first_of;
  rule = vector_slack_rule;
  no_sum = refl;
  no_dual_sum = refl;
  children = λ edge item. refl;
  dual = λ edge item source no_group. (refl, λ ys. refl);
  law = λ edge own item valid source.
      slack_law edge item (made item) (record {
        item_valid = valid;
        source = row source.cone;
        made = record { no_group = refl; no_objective = refl };
        functions = refl;
        equal = λ one v long h. h;
        low = λ y. refl;
        shaped = refl;
        fits = record { dimension = refl; enough = valid.some; uncrossed = refl };
        back = λ y. back_is vector_slack_rule edge own item (y ∷ []);
        no_growth = ap growth own;
        group_leads = source.leads (inner item (size item));
        row_leads = source.row_leads (differences (functions_of item.body)
            (inner_functions item (size item))) (size item);
      });
}
