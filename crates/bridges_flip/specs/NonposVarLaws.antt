-- The law of NonposVar: x ≤ 0 is -s with s ≥ 0.
use Rattle.std.specs.Prelude.{All, List, [], length, map, refl, ℕ, ◌*◌, ◌∷◌, ◌≡◌, ◌≤◌}
use Rattle.std.proofs.lemmas.List.Elements.{All-nil, All-weaker, All-cons, All-map}
use Rattle.std.proofs.Common.{ap, ap₂, arith, ◌∙◌, subst, sym, true≢false}
use Rattle.std.proofs.lemmas.List.{length-map}
use Rattle.rational_laws.specs.Field.{neg_ℚ-zero, -ℚ-itself}
use Rattle.aff_core.specs.Address.{Address, address_cmp, child_of}
use Rattle.bridge_face.specs.BackOf.{back_by, size}
use Rattle.item_core.specs.declared.item.Body.{Body}
use Rattle.item_core.specs.declared.image.Expression.TheVariants.{Bridged}
use Rattle.set_core.specs.Membership.{Dual, In, low_of}
use Rattle.item_core.specs.declared.edge.Edge.TheVariants.{E44}
use Rattle.item_core.specs.declared.edge.Edge.{Edge}
use Rattle.bridge_face.specs.Law.{Miss, growth}
use Rattle.item_core.specs.declared.image.Expression.{Expression}
use Rattle.bridge_face.specs.ImageOf.{bridged, group_at, image_by, inner, nonpos_var}
use Rattle.item_core.specs.Valid.{IsValidItem}
use Rattle.aff_core.specs.Function.{Function, coefficient, negated, variable}
use Rattle.item_core.specs.declared.item.Body.TheVariants.{Group}
use Rattle.item_core.specs.declared.item.Item.{Item}
use Rattle.bridge_face.specs.FamilyLaws.{of_another}
use Rattle.set_core.specs.declared.set.Set.TheVariants.{Nonnegatives, Nonpositives}
use Rattle.item_core.specs.declared.family.Family.TheVariants.{NonposVar}
use Rattle.bridge_face.specs.Sources.{OfKind, group_nonpositives}
use Rattle.bridge_face.specs.GroupLaws.{GroupSourced, IsGroupRule, OneGroup, one_group_law}
use Rattle.ratio_core.specs.Rational.{Rational, neg_ℚ, zero_ℚ, ◌-ℚ◌}
use Rattle.aff_core.specs.KeyOrder.{address_order}
use Rattle.aff_core.specs.FunctionLaws.{coefficient-negated, constant-negated, constant-variable}
use Rattle.aff_core.specs.FunctionLists.{coefficients, constants, evaluations}
use Rattle.bridge_face.specs.ComponentLaws.{length-components, not_contained, variables, variables_missed, weighed, weighed_components}
use Rattle.rational_laws.specs.Dot.{dot}
use Rattle.rational_laws.specs.DotLaws.{dot-negated, dot_zeros}
use Rattle.item_core.specs.Edge.{edge_entry, family_of, source_of}
use Rattle.bridge_face.specs.DifferenceLaws.{evaluated-negated, missed-negated}
use Rattle.linear_laws.specs.ListLaws.{evaluated_variable}
use Rattle.item_core.specs.KindOf.{kind_of_body}
use Rattle.set_laws.specs.Mirrors.{mirrors}
use Rattle.set_core.specs.Mirrored.{multiplied}
use Rattle.bridge_face.specs.Images.{child_at, group_by}
use Rattle.rational_laws.specs.Dot as numbers

-- a group of variables at most 0; the edge makes a group of its kind from it
abbrev pub NonposVarSourced : Edge → Body → Type 0
NonposVarSourced = GroupSourced Nonpositives

sourced : (edge : Edge) → family_of edge ≡ NonposVar → {b : Body} → OfKind (source_of edge) b
    → NonposVarSourced edge b
unfolding edge_entry kind_of_body
sourced E44 own (group_nonpositives {vars} {n}) =
    record { count = n; set = refl; group = refl; leads = λ n vars. refl }
sourced _ own k = of_another own refl

-- ---- negated variables

abbrev pub negatives : List Address → List Function
negatives vs = map negated (variables vs)

-- a negated variable, as an expression
abbrev pub negative : Address → Expression
negative v = Bridged (negated (variable v))

pub negatives_are : (vs : List Address) → bridged (negatives vs) ≡ map negative vs
negatives_are [] = refl
negatives_are (v ∷ vs) = ap (λ es. negative v ∷ es) (negatives_are vs)

constants-negatives : (vs : List Address) → All (λ q. q ≡ zero_ℚ) (constants (negatives vs))
constants-negatives [] = All-nil (λ q. q ≡ zero_ℚ)
constants-negatives (v ∷ vs) =
    All-cons (λ q. q ≡ zero_ℚ) (negated (variable v)).constant (constants (negatives vs))
    (constant-negated address_order (variable v) ∙ ap neg_ℚ (constant-variable address_cmp v)
    ∙ neg_ℚ-zero)
    (constants-negatives vs)

evaluations-negatives : (one : Rational) (vs : List Address) (x : Address → Rational)
    → evaluations one (negatives vs) x ≡ numbers.negated (map x vs)
evaluations-negatives one [] x = refl
evaluations-negatives one (v ∷ vs) x =
    ap₂ ◌∷◌ (evaluated-negated one (variable v) x ∙ ap neg_ℚ (evaluated_variable one v x))
    (evaluations-negatives one vs x)

coefficients-negatives : (vs : List Address) (v : Address)
    → coefficients (negatives vs) v ≡ numbers.negated (coefficients (variables vs) v)
coefficients-negatives [] v = refl
coefficients-negatives (u ∷ vs) v =
    ap₂ ◌∷◌ (coefficient-negated address_order (variable u) v) (coefficients-negatives vs v)

weighed-negatives : (w : List Rational) (us vs : List Address)
    → weighed w (negatives us) vs ≡ numbers.negated (weighed w (variables us) vs)
weighed-negatives w us [] = refl
weighed-negatives w us (v ∷ vs) =
    ap₂ ◌∷◌
    (ap (dot w) (coefficients-negatives us v) ∙ dot-negated w (coefficients (variables us) v))
    (weighed-negatives w us vs)

misses-negatives : (vs : List Address) (v : Address) → Miss (variables vs) v → Miss (negatives vs) v
misses-negatives vs v m =
    All-map (λ f. coefficient f v ≡ zero_ℚ) negated (variables vs)
    (All-weaker (λ f. coefficient f v ≡ zero_ℚ) (λ f. coefficient (negated f) v ≡ zero_ℚ)
    (λ f e. missed-negated v f e) (variables vs) m)

-- ---- the law

-- so an image that is made of these parts is the item's
pub image_made : (item : Item) (count : ℕ) (vars : List Address) (exprs : List Expression)
    (group : Item)
    → count ≡ size item → vars ≡ inner item count → exprs ≡ map negative vars
    → group ≡ child_at item 0 (Group (Nonnegatives count) vars)
    → group_by (group ∷ []) exprs ≡ nonpos_var item
image_made item count vars exprs group count_is vars_are exprs_are group_is =
    ap₂ (λ g es. group_by (g ∷ []) es) group_is exprs_are
    ∙ ap (λ vs. group_by (child_at item 0 (Group (Nonnegatives count) vs) ∷ []) (map negative vs))
    vars_are
    ∙ ap (λ n. group_by (child_at item 0 (Group (Nonnegatives n) (inner item n)) ∷ [])
    (map negative (inner item n))) count_is
    ∙ ap (λ es. group_by (group_at item (Nonnegatives (size item)) (size item) ∷ []) es)
    (sym (negatives_are (inner item (size item))))

module _ (edge : Edge) (own : family_of edge ≡ NonposVar) where
  module _ (item : Item) (valid : IsValidItem item) (is : NonposVarSourced edge item.body) where
    abbrev d : ℕ
    d = size item

    abbrev ss : List Address
    ss = inner item d

    long : length (negatives ss) ≡ d
    long =
        length-map (variables ss) negated ∙ length-map ss variable
        ∙ length-components (child_of item.at 0) d

    numbers_are : (w : List Rational) → length w ≡ length (negatives ss)
        → weighed w (negatives ss) ss ≡ numbers.negated w
    numbers_are w e =
        weighed-negatives w ss ss
        ∙ ap numbers.negated (weighed_components (child_of item.at 0) d w (e ∙ long))

    one_group : OneGroup edge item (Nonnegatives d) d (negatives ss)
    one_group = record {
      item_valid = valid;
      source = is.group;
      size = long;
      named = λ v absent. misses-negatives ss v (variables_missed ss v (not_contained ss v absent));
      values = λ one x h below.
          subst (λ s. In (multiplied one s) (evaluations one (negatives ss) x)) (sym is.set)
          (subst (In (Nonpositives is.count)) (sym (evaluations-negatives one ss x))
          (((mirrors (Nonnegatives is.count) refl).values (map x ss)).0 below));
      dual = λ w e there.
          subst (λ s. Dual s w) (sym is.set)
          (((mirrors (Nonpositives is.count) refl).duals w).1 (subst (Dual (Nonnegatives is.count))
          (numbers_are w e) there));
      gaps = λ w e there.
          sym (ap₂ ◌-ℚ◌ (ap (λ s. low_of s w) is.set) (dot_zeros w (constants (negatives ss))
          (constants-negatives ss))
          ∙ -ℚ-itself zero_ℚ);
      some = valid.some;
      fits = record { dimension = refl; enough = valid.some; uncrossed = refl };
      grows = subst (λ n. d ≤ n * d) (sym (ap growth own)) (omega arith);
      leads = is.leads d ss;
    }

pub rule : IsGroupRule NonposVar NonposVarSourced (λ edge. nonpos_var) 0
unfolding image_by back_by
rule = record {
  carry = λ item ys. [];
  rule = record { image = λ edge item. refl; back = λ item ys. refl; sourced = sourced };
  no_sum = refl;
  no_dual_sum = refl;
  children = λ edge item. refl;
  dual = λ edge item is no_group. absurd (true≢false (sym is.group ∙ no_group));
  law = λ edge own item valid is.
      one_group_law edge item (Nonnegatives (size item)) (size item)
      (negatives (inner item (size item))) (one_group edge own item valid is);
}
