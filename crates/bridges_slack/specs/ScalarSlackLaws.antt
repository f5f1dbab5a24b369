-- The law of ScalarSlack: f in S is s in S and f - s = 0.
use Rattle.std.specs.Prelude.{All, List, [], length, refl, ◌∷◌, ◌≡◌}
use Rattle.std.proofs.lemmas.List.Elements.{All-cons, All-head, All-nil}
use Rattle.std.proofs.Common.{ap, arith, subst, sym, ◌∙◌}
use Rattle.rational_laws.specs.Field.{*ℚ-zero, zero-*ℚ}
use Rattle.aff_core.specs.Address.{Address, child_of}
use Rattle.item_core.specs.declared.item.Body.TheVariants.{Affine, Group}
use Rattle.bridge_face.specs.BackOf.{back_by, size}
use Rattle.bridge_face.specs.BackOf as backs
use Rattle.item_core.specs.declared.item.Body.{Body}
use Rattle.item_core.specs.declared.edge.Edge.TheVariants.{E31, E32, E33}
use Rattle.item_core.specs.declared.edge.Edge.{Edge}
use Rattle.bridge_face.specs.Law.{EdgeLaw, LeadsToKind, growth}
use Rattle.set_core.specs.declared.set.Set.TheVariants.{EqualTo, GreaterThan, Interval, LessThan}
use Rattle.bridge_face.specs.ImageOf.{differences, group_at, image_by, inner, inner_functions, scalar_slack}
use Rattle.item_core.specs.Valid.{IsValidItem, NamesNothingBelow}
use Rattle.aff_core.specs.Function.{Function, coefficient, variable}
use Rattle.bridge_face.specs.OneRowLaws.{IsRowBody}
use Rattle.bridges_slack.specs.SlackLaws.{IsSlack, slack_law}
use Rattle.item_core.specs.declared.item.Item.{Item}
use Rattle.bridge_face.specs.FamilyLaws.{Rule, back_is, of_another}
use Rattle.bridge_face.specs.GroupLaws.{IsGroupRule}
use Rattle.bridge_face.specs.Sources.{OfKind, affine_greater_than, affine_interval, affine_less_than}
use Rattle.ratio_core.specs.Rational.{Rational, zero_ℚ, ◌*ℚ◌}
use Rattle.item_core.specs.declared.family.Family.TheVariants.{ScalarSlack}
use Rattle.bridge_face.specs.Images.{difference, first_in, function_of_body}
use Rattle.item_core.specs.Edge.{edge_entry, family_of, source_of}
use Rattle.set_core.specs.Vectors.{first_of}
use Rattle.item_core.specs.Item.{functions_of, set_of}
use Rattle.item_core.specs.KindOf.{kind_of_body}
use Rattle.set_laws.specs.Least.{single}
use Rattle.bridge_face.specs.ComponentLaws.{unnamed_below, variables}
use Rattle.bridge_face.specs.GroupAndRowLaws.{group_and_row}

-- an affine row with bounds
pub data IsBoundedRow : Body → Type 0 where
  below_bound : {f : Function} {u : Rational} → IsBoundedRow (Affine f (LessThan u))
  above_bound : {f : Function} {l : Rational} → IsBoundedRow (Affine f (GreaterThan l))
  between : {f : Function} {l u : Rational} → IsBoundedRow (Affine f (Interval l u))

-- the row that the edges make of it
abbrev pub made : Item → Body
made item =
    Affine (first_in (differences (functions_of item.body) (inner_functions item 1)))
    (EqualTo zero_ℚ)

pub record ScalarSlackSourced (edge : Edge) (b : Body) : Type 0 where
  pub bounded : IsBoundedRow b
  leads : (vars : List Address) → LeadsToKind edge (Group (set_of b) vars)
  row_leads : (f : Function) → LeadsToKind edge (Affine f (EqualTo zero_ℚ))

sourced : (edge : Edge) → family_of edge ≡ ScalarSlack → {b : Body} → OfKind (source_of edge) b
    → ScalarSlackSourced edge b
unfolding edge_entry kind_of_body
sourced E31 own affine_less_than =
    record { bounded = below_bound; leads = λ vars. refl; row_leads = λ f. refl }
sourced E32 own affine_greater_than =
    record { bounded = above_bound; leads = λ vars. refl; row_leads = λ f. refl }
sourced E33 own affine_interval =
    record { bounded = between; leads = λ vars. refl; row_leads = λ f. refl }
sourced _ own k = of_another own refl

scalar_slack_rule : Rule ScalarSlack ScalarSlackSourced (λ edge. scalar_slack) (λ item. backs.first_of)
unfolding image_by back_by
scalar_slack_rule = record { image = λ edge item. refl; back = λ item ys. refl; sourced = sourced }

-- what is read of it
record Bounded (b : Body) : Type 0 where
  row : IsRowBody b
  functions : functions_of b ≡ function_of_body b ∷ []

read : {b : Body} → IsBoundedRow b → Bounded b
read below_bound =
    record { row = record { no_group = refl; no_objective = refl }; functions = refl }
read above_bound =
    record { row = record { no_group = refl; no_objective = refl }; functions = refl }
read between = record { row = record { no_group = refl; no_objective = refl }; functions = refl }

-- one difference is the list of it
alone_is : (fs : List Function) (f : Function) (v : Address) → fs ≡ f ∷ []
    → first_in (differences fs (variables (v ∷ []))) ∷ [] ≡ differences fs (variables (v ∷ []))
alone_is fs f v e =
    subst (λ gs. first_in (differences gs (variables (v ∷ []))) ∷ []
    ≡ differences gs (variables (v ∷ []))) (sym e) refl

zero_alone : (one : Rational) (v : List Rational) → length v ≡ 1 → first_of v ≡ one *ℚ zero_ℚ
    → All (λ q. q ≡ zero_ℚ) v
zero_alone one v e h =
    single (λ v. first_of v ≡ one *ℚ zero_ℚ → All (λ q. q ≡ zero_ℚ) v)
    (λ p is. All-cons (λ q. q ≡ zero_ℚ) p [] (is ∙ *ℚ-zero one) (All-nil (λ q. q ≡ zero_ℚ))) v e h

-- ---- the law

-- the row doesn't name the component
pub absent : (item : Item) → IsValidItem item → IsBoundedRow item.body
    → coefficient (function_of_body item.body) (child_of (child_of item.at 0) 0) ≡ zero_ℚ
absent item valid bounded =
    let facts = read bounded in
    let unnamed : All (NamesNothingBelow item.at) (function_of_body item.body ∷ []) = subst
    (All (NamesNothingBelow item.at)) facts.functions (valid.others facts.row.no_group) in
    unnamed_below item.at 0 (function_of_body item.body)
    (All-head (NamesNothingBelow item.at) (function_of_body item.body) [] unnamed) (0 ∷ [])

-- the image, with the row's function written out
pub image_made : (item : Item) → IsBoundedRow item.body
    → group_and_row item (group_at item (set_of item.body) 1) []
    (Affine (difference (function_of_body item.body) (variable (child_of (child_of item.at 0) 0)))
    (EqualTo zero_ℚ))
    ≡ scalar_slack item
image_made item bounded =
    ap (λ fs. group_and_row item (group_at item (set_of item.body) 1) []
    (Affine (first_in (differences fs (inner_functions item 1))) (EqualTo zero_ℚ)))
    (sym (read bounded).functions)

module _ (edge : Edge) (own : family_of edge ≡ ScalarSlack) (item : Item)
    (valid : IsValidItem item) (source : ScalarSlackSourced edge item.body) where
  facts : Bounded item.body
  facts = read source.bounded

  one : size item ≡ 1
  one = ap length facts.functions

  slack : IsSlack edge item (made item)
  slack = record {
    item_valid = valid;
    source = facts.row;
    made = record { no_group = refl; no_objective = refl };
    functions =
        alone_is (functions_of item.body) (function_of_body item.body)
        (child_of (child_of item.at 0) 0) facts.functions
        ∙ ap (λ n. differences (functions_of item.body) (variables (inner item n))) (sym one);
    equal = λ t v long h. zero_alone t v (long ∙ one) h;
    low = λ y. zero-*ℚ (first_of y);
    shaped = refl;
    fits = record { dimension = sym one; enough = omega (arith, one); uncrossed = refl };
    back = λ y. back_is scalar_slack_rule edge own item (y ∷ []);
    no_growth = ap growth own;
    group_leads = source.leads (inner item (size item));
    row_leads = source.row_leads (first_in (differences (functions_of item.body)
        (inner_functions item 1)));
  }

  scalar_slack_law : EdgeLaw edge item (scalar_slack item)
  scalar_slack_law =
      subst (EdgeLaw edge item)
      (ap (λ n. group_and_row item (group_at item (set_of item.body) n) [] (made item)) one)
      (slack_law edge item (made item) slack)

pub rule : IsGroupRule ScalarSlack ScalarSlackSourced (λ edge. scalar_slack) 1
rule = record {
  carry = λ item. backs.first_of;
  rule = scalar_slack_rule;
  no_sum = refl;
  no_dual_sum = refl;
  children = λ edge item. refl;
  dual = λ edge item source no_group. (refl, λ ys. refl);
  law = scalar_slack_law;
}
