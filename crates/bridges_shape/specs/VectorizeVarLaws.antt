-- The law of VectorizeVar: x ≤ u is u + s with s ≤ 0, and so for ≥ and =.
use Rattle.std.specs.Prelude.{◌≡◌, ◌≤◌, ◌*◌, true, List, [], ◌∷◌, length, refl}
use Rattle.std.proofs.Common.{arith, sym, true≢false, ap, ap₂, subst, ◌∙◌}
use Rattle.std.proofs.lemmas.List.Elements.{All-cons, All-head, All-nil}
use Rattle.ratio_core.specs.Rational.{Rational, zero_ℚ, ◌*ℚ◌, ◌+ℚ◌, ◌-ℚ◌}
use Rattle.rational_laws.specs.Dot.{dot}
use Rattle.rational_laws.specs.Field.{zero-+ℚ}
use Rattle.rational_laws.specs.Ring.{as_expression, by_ring, ring₂, ring₃, zero_as}
use Rattle.aff_core.specs.Address.{Address, address_cmp, child_of}
use Rattle.aff_core.specs.Function.{Function, coefficient, evaluated, slope, variable}
use Rattle.aff_core.specs.FunctionLists.{constants}
use Rattle.aff_core.specs.FunctionLaws.{constant-variable}
use Rattle.linear_laws.specs.ListLaws.{slope_variable}
use Rattle.set_core.specs.Membership.{Dual, In, low_of}
use Rattle.set_core.specs.Mirrored.{multiplied}
use Rattle.set_core.specs.Shapes.{dimension_of}
use Rattle.set_core.specs.declared.set.Set.{Set}
use Rattle.item_core.specs.declared.edge.Edge.{Edge}
use Rattle.item_core.specs.declared.edge.Edge.TheVariants.{E46, E47, E48}
use Rattle.item_core.specs.declared.family.Family.TheVariants.{VectorizeVar}
use Rattle.item_core.specs.declared.image.Expression.{Expression}
use Rattle.item_core.specs.declared.image.Expression.TheVariants.{Bridged}
use Rattle.item_core.specs.declared.item.Body.{Body}
use Rattle.item_core.specs.declared.item.Body.TheVariants.{Group}
use Rattle.item_core.specs.declared.item.Item.{Item}
use Rattle.item_core.specs.Edge.{edge_entry, family_of, source_of}
use Rattle.item_core.specs.Item.{functions_of, is_group, set_of}
use Rattle.item_core.specs.KindOf.{kind_of_body}
use Rattle.item_core.specs.Valid.{IsValidItem}
use Rattle.bridge_face.specs.BackOf.{back_by}
use Rattle.bridge_face.specs.ComponentLaws.{not_contained, variables_missed, weighed, weighed_components}
use Rattle.bridge_face.specs.FamilyLaws.{of_another}
use Rattle.bridge_face.specs.GroupLaws.{IsGroupRule, OneGroup, one_group_law}
use Rattle.bridge_face.specs.ImageOf.{image_by, inner, vectorize_var}
use Rattle.bridge_face.specs.Images.{child_at, cone_of, group_by, number_in, raised}
use Rattle.bridge_face.specs.Law.{LeadsToKind, growth}
use Rattle.bridge_face.specs.Sources.{OfKind, group_equal_to, group_greater_than, group_less_than}
use Rattle.bridges_shape.specs.RaisedLaws.{HasDifferenceCone, at_least, at_most, cone_of_one, equal, in_dual, in_set, low_cone, low_first, set_of_one}

-- a group in a set with one number
pub data IsNumberGroup : Body → Type 0 where
  group : {vars : List Address} {set : Set} → HasDifferenceCone set (number_in set) (cone_of set)
      → IsNumberGroup (Group set vars)

-- what is read of it
record Read (b : Body) : Type 0 where
  source : is_group b ≡ true
  has : HasDifferenceCone (set_of b) (number_in (set_of b)) (cone_of (set_of b))

read : {b : Body} → IsNumberGroup b → Read b
read (group has) = record { source = refl; has = has }

pub record VectorizeVarSourced (edge : Edge) (b : Body) : Type 0 where
  pub group : IsNumberGroup b
  pub leads : (vars : List Address) → LeadsToKind edge (Group (cone_of (set_of b)) vars)

sourced : (edge : Edge) → family_of edge ≡ VectorizeVar → {b : Body} → OfKind (source_of edge) b
    → VectorizeVarSourced edge b
unfolding edge_entry kind_of_body
sourced E46 own group_less_than = record { group = group at_most; leads = λ vars. refl }
sourced E47 own group_greater_than = record { group = group at_least; leads = λ vars. refl }
sourced E48 own group_equal_to = record { group = group equal; leads = λ vars. refl }
sourced _ own k = of_another own refl

-- ---- on numbers

no_gap : (a q : Rational) → zero_ℚ ≡ a *ℚ q -ℚ (q *ℚ (zero_ℚ +ℚ a) +ℚ zero_ℚ)
no_gap = ring₂ _ (λ ρ. simp (as_expression, zero_as ρ) (by_ring ρ _ _ refl))

-- a variable with this constant
pub raised-variable : (v : Address) (q : Rational)
    → record (variable {R = address_cmp} v) { constant = q }
    ≡ raised (variable {R = address_cmp} v) q
raised-variable v q =
    ap (λ k. record (variable {R = address_cmp} v) { constant = k })
    (sym (zero-+ℚ q) ∙ ap (λ z. z +ℚ q) (sym (constant-variable address_cmp v)))

-- ---- the law

-- so an image that is made of these parts is the item's
pub image_made : (item : Item) (set : Set) (cone : Set) (number : Rational) (vars : List Address)
    (exprs : List Expression) (child : Item)
    → set ≡ set_of item.body → cone ≡ cone_of set → number ≡ number_in set → vars ≡ inner item 1
    → exprs ≡ Bridged (raised (variable (child_of (child_of item.at 0) 0)) number) ∷ []
    → child ≡ child_at item 0 (Group cone vars)
    → group_by (child ∷ []) exprs ≡ vectorize_var item
image_made item set cone number vars exprs child set_is cone_is number_is vars_are exprs_are
    group_is =
    ap₂ (λ g es. group_by (g ∷ []) es) group_is exprs_are
    ∙ ap (λ vs. group_by (child_at item 0 (Group cone vs) ∷ [])
    (Bridged (raised (variable (child_of (child_of item.at 0) 0)) number) ∷ [])) vars_are
    ∙ ap₂ (λ k n. group_by (child_at item 0 (Group k (inner item 1)) ∷ [])
    (Bridged (raised (variable (child_of (child_of item.at 0) 0)) n) ∷ []))
    (cone_is ∙ ap cone_of set_is) (number_is ∙ ap number_in set_is)

module _ (edge : Edge) (own : family_of edge ≡ VectorizeVar) where
  module _ (item : Item) (valid : IsValidItem item) (r : Read item.body)
      (leads : (vars : List Address) → LeadsToKind edge (Group (cone_of (set_of item.body)) vars)) where
    abbrev a : Rational
    a = number_in (set_of item.body)

    abbrev s : Address
    s = child_of (child_of item.at 0) 0

    -- the only component
    abbrev fs : List Function
    fs = raised (variable s) a ∷ []

    one_component : length (functions_of item.body) ≡ 1
    one_component = sym (valid.set.dimension) ∙ dimension
      where
        dimension : dimension_of (set_of item.body) ≡ 1
        dimension = (set_of_one r.has).dimension

    value_is : (one : Rational) (x : Address → Rational)
        → evaluated one (raised (variable s) a) x -ℚ one *ℚ a ≡ x s
    value_is one x =
        ap (λ k. (one *ℚ (k +ℚ a) +ℚ slope {R = address_cmp} (variable {R = address_cmp} s) x)
        -ℚ one *ℚ a) (constant-variable address_cmp s)
        ∙ ap (λ k. (one *ℚ (zero_ℚ +ℚ a) +ℚ k) -ℚ one *ℚ a) (slope_variable s x)
        ∙ shed one a (x s)
      where
        shed : (one a q : Rational) → (one *ℚ (zero_ℚ +ℚ a) +ℚ q) -ℚ one *ℚ a ≡ q
        shed = ring₃ _ (λ ρ. simp (as_expression, zero_as ρ) (by_ring ρ _ _ refl))

    weighed_is : (w : List Rational) → length w ≡ 1 → weighed w fs (inner item 1) ≡ w
    weighed_is w e = weighed_components (child_of item.at 0) 1 w e

    dual_one : (w : List Rational) → length w ≡ 1 → Dual (cone_of (set_of item.body)) w
        → Dual (set_of item.body) w
    dual_one [] e h = absurd (omega (arith, e))
    dual_one (q ∷ []) e h = in_dual r.has q h
    dual_one (q ∷ (p ∷ w)) e h = absurd (omega (arith, e))

    gap_one : (w : List Rational) → length w ≡ 1
        → zero_ℚ ≡ low_of (set_of item.body) w -ℚ dot w (constants fs)
    gap_one [] e = absurd (omega (arith, e))
    gap_one (q ∷ []) e =
        no_gap a q ∙ ap₂ (λ l k. l -ℚ (q *ℚ (k +ℚ a) +ℚ zero_ℚ)) (sym (low_first r.has q []))
        (sym (constant-variable address_cmp s))
    gap_one (q ∷ (p ∷ w)) e = absurd (omega (arith, e))

    one_group : OneGroup edge item (cone_of (set_of item.body)) 1 fs
    one_group = record {
      item_valid = valid;
      source = r.source;
      size = sym one_component;
      named = λ v absent.
          All-cons (λ f. coefficient f v ≡ zero_ℚ) (raised (variable s) a) []
          (All-head (λ f. coefficient f v ≡ zero_ℚ) (variable s) []
          (variables_missed (inner item 1) v (not_contained (inner item 1) v absent)))
          (All-nil (λ f. coefficient f v ≡ zero_ℚ));
      values = λ one x h below. in_set r.has one (evaluated one (raised (variable s) a) x)
          (subst (λ q. In (multiplied one (cone_of (set_of item.body))) (q ∷ []))
          (sym (value_is one x)) below);
      dual = λ w e h. dual_one w e (subst (Dual (cone_of (set_of item.body))) (weighed_is w e) h);
      gaps = λ w e h. low_cone r.has (weighed w fs (inner item 1)) ∙ gap_one w e;
      some = omega arith;
      fits = cone_of_one r.has;
      grows = subst (λ n. 1 ≤ n * length (functions_of item.body)) (sym (ap growth own))
          (omega (arith, one_component));
      leads = leads (inner item 1);
    }

pub rule : IsGroupRule VectorizeVar VectorizeVarSourced (λ edge. vectorize_var) 0
unfolding image_by back_by
rule = record {
  carry = λ item ys. [];
  rule = record { image = λ edge item. refl; back = λ item ys. refl; sourced = sourced };
  no_sum = refl;
  no_dual_sum = refl;
  children = λ edge item. refl;
  dual = λ edge item source no_group. absurd (true≢false (sym (read source.group).source
      ∙ no_group));
  law = λ edge own item valid source.
      one_group_law edge item (cone_of (set_of item.body)) 1
      (raised (variable (child_of (child_of item.at 0) 0)) (number_in (set_of item.body)) ∷ [])
      (one_group edge own item valid (read source.group) source.leads);
}
