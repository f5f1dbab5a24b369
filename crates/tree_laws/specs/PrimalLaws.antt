-- A feasible point of the leaf model, or a ray, is one of the user's model, at which the user's
-- objective costs no more.
use Rattle.std.specs.Prelude.{◌≡◌, true, false, List, [], ◌∷◌, ◌++◌, All, flat_map, length, map, refl}
use Rattle.std.specs.FinMap as finite
use Rattle.std.specs.List.Sorted.{IsPermutation}
use Rattle.std.proofs.Common.{arith, sym, ap, subst, ◌∙◌, true≢false}
use Rattle.std.proofs.lemmas.List.Elements.{All-append, All-cons, All-head, All-map, All-nil, All-tail, All-weaker}
use Rattle.std.proofs.lemmas.List.Sorted.{All-permutation, IsPermutation-sym, length_permutation}
use Rattle.bridge_graph.specs.Hypergraph.{IsCostly}
use Rattle.expansion.specs.Read.{leaves_in, leaves_of_each, model_leaves, model_nodes, nodes_in, nodes_of_each}
use Rattle.ratio_core.specs.Rational.{Rational, zero_ℚ, ◌≤ℚ◌}
use Rattle.rational_laws.specs.Order.{≤ℚ_from_≡}
use Rattle.set_core.specs.Membership.{In}
use Rattle.set_core.specs.Mirrored.{multiplied}
use Rattle.set_core.specs.declared.set.Set.{Set}
use Rattle.aff_core.specs.Address.{Address, address_cmp}
use Rattle.aff_core.specs.Function.{evaluated, variable}
use Rattle.aff_core.specs.FunctionLists.{evaluations}
use Rattle.aff_core.specs.declared.sense.Sense.TheVariants.{Min}
use Rattle.linear_laws.specs.ListLaws.{evaluations_variables}
use Rattle.dual_laws.specs.Held.{Holds}
use Rattle.certificates.specs.Points.{addresses_of, all_addresses, at_point, functions_of as functions_in, functions_of_group}
use Rattle.equality_form.specs.EqualityForm.{cost, cost_among, cost_of as form_cost}
use Rattle.equality_form.specs.Right.{Admits, IsLeafFeasible}
use Rattle.item_core.specs.declared.item.Body.{Body}
use Rattle.item_core.specs.declared.item.Body.TheVariants.{Group, Free, Plain, Affine, PlainVec, AffineVec, PlainObj, AffineObj}
use Rattle.item_core.specs.declared.item.Item.{Item}
use Rattle.item_core.specs.Item.{functions_of, is_group, set_of}
use Rattle.bridge_face.specs.Law.{HoldsAt, Miss, cost_of, held_body, inner_of, is_objective, row_set}
use Rattle.fresh_bridging.specs.CanLaws.{AreLawful}
use Rattle.map_laws.specs.EachLaws.{all_both, all_first, all_from_map, all_second}
use Rattle.fresh_bridging.specs.Entries.{put_in}
use Rattle.fresh_bridging.specs.FreshBridging.{FreshBridging, leaves_of}
use Rattle.fresh_bridging.specs.Leaves.{leaf_objectives, leaf_rows, leaf_variables}
use Rattle.fresh_bridging.specs.ModelImage.{group_item, model_image, objective_item, objective_items, row_body, row_item}
use Rattle.fresh_bridging.specs.ModelLaws.{IsFurther, further, row_no_group}
use Rattle.fresh_bridging.specs.TheRules.{Setting, graph_of}
use Rattle.solver_store.specs.declared.leaf.LeafVar.{LeafVar}
use Rattle.solver_store.specs.declared.leaf.LeafVar.TheVariants as leaf
use Rattle.user_model.specs.Model.{ModelValue}
use Rattle.user_model.specs.Valid.{IsValid, IsValidRow}
use Rattle.user_model.specs.declared.function.UserFunc.{UserFunc}
use Rattle.user_model.specs.declared.function.UserFunc.TheVariants as func
use Rattle.user_model.specs.declared.group.Group.{Group as UserGroup}
use Rattle.user_model.specs.declared.row.Row.{Row}
use Rattle.address_laws.specs.Apart.{Avoids, Distinct}
use Rattle.address_laws.specs.DistinctLaws.{each_apart, model_groups_here, model_others_here, vars_distinct}
use Rattle.bridge_face.specs.ObjectiveLaws.{objective_no_group}
use Rattle.address_laws.specs.ImageLaws.{variables_miss}
use Rattle.address_laws.specs.KeyLaws.{IsHere}
use Rattle.address_laws.specs.PutLaws.{group_stays, objective_stays}
use Rattle.tree_laws.specs.Carried.{group_held, group_helds, through}
use Rattle.tree_laws.specs.LeafLaws.{AreLeavesAndNodes, IsLeaf, IsNativeGroup, IsNode, SupportsNativeKinds, both_parts, each_are_parts, free, nonnegatives, others_are_parts, reals}
use Rattle.tree_laws.specs.ObjectiveLaws.{CostsNothing, HasOneLeafObjective, HasOneObjective, none_below_each, one_behind, one_in, one_last}
use Rattle.tree_laws.specs.PutLaws.{held_put}
use Rattle.tree_laws.specs.SeenLaws.{IsGroupHere, IsRowHere}
use Rattle.tree_laws.specs.UpLaws.{CostsAtLeast, GroupsHold, LeafHolds, cost_put, costs_in, groups_hold, no_numbers, point_in, rows_hold, to_point}
use Rattle.tree_laws.specs.UserLaws.{evaluations_agree, group_among, inner_is, item_functions_are, listed_point, row_functions_are, row_sets_are, user_row_misses}

-- ---- leaves at a point

module _ (one : Rational) (a : zero_ℚ ≤ℚ one) (x : Address → Rational) where
  abbrev pub Allows : Address × LeafVar → Type 0
  Allows var = Admits var.1 (x var.0)

  abbrev pub LeafRowIn : Address × Body → Type 0
  LeafRowIn row = In (multiplied one (set_of row.1)) (evaluations one (functions_of row.1) x)

  nonneg_in : (vars : List Address) (var : LeafVar)
      → ((v : Address) → Allows (v, var) → zero_ℚ ≤ℚ x v)
      → All Allows (map (λ v. (v, var)) vars)
      → All (λ q. zero_ℚ ≤ℚ q) (evaluations one (map (variable {R = address_cmp}) vars) x)
  nonneg_in vars var say h =
      subst (All (λ q. zero_ℚ ≤ℚ q)) (sym (evaluations_variables one vars x))
      (All-map (λ q. zero_ℚ ≤ℚ q) x vars
      (All-weaker (λ v. Allows (v, var)) (λ v. zero_ℚ ≤ℚ x v) (λ v k. say v k) vars
      (all_from_map Allows (λ v. (v, var)) vars h)))

  group_in : (at : Address) (b : Body) → IsNativeGroup b
      → All Allows (leaf_variables (record { at = at; body = b }))
      → HoldsAt one x (record { at = at; body = b })
  group_in at b (reals {n} {vars}) h = tt
  group_in at b (nonnegatives {n} {vars}) h = nonneg_in vars leaf.Nonneg (λ v k. k) h
  group_in at b (free {vars}) h = tt

  one_in_place : (i : Item) → IsLeaf i → All Allows (leaf_variables i) → All LeafRowIn (leaf_rows i)
      → LeafHolds one a x i
  one_in_place i = by i.body
    where
      by : (b : Body) → IsLeaf (record { at = i.at; body = b })
          → All Allows (leaf_variables (record { at = i.at; body = b }))
          → All LeafRowIn (leaf_rows (record { at = i.at; body = b }))
          → LeafHolds one a x (record { at = i.at; body = b })
      by (Group s vars) l v r o = group_in i.at (Group s vars) (l.group refl) v
      by (Free vars) l v r o = group_in i.at (Free vars) (l.group refl) v
      by (Plain var s) l v r o = All-head LeafRowIn (i.at, Plain var s) [] r
      by (Affine f s) l v r o = All-head LeafRowIn (i.at, Affine f s) [] r
      by (PlainVec vars s) l v r o = All-head LeafRowIn (i.at, PlainVec vars s) [] r
      by (AffineVec fs s) l v r o = All-head LeafRowIn (i.at, AffineVec fs s) [] r
      by (PlainObj sense var) l v r o = absurd (true≢false o)
      by (AffineObj sense f) l v r o = absurd (true≢false o)

  pub leaves_in_place : (items : List Item) → All IsLeaf items
      → All Allows (flat_map leaf_variables items) → All LeafRowIn (flat_map leaf_rows items)
      → All (LeafHolds one a x) items
  leaves_in_place [] l v r = All-nil (LeafHolds one a x)
  leaves_in_place (i ∷ items) l v r =
      All-cons (LeafHolds one a x) i items
      (one_in_place i (All-head IsLeaf i items l)
      (all_first Allows (leaf_variables i) (flat_map leaf_variables items) v)
      (all_first LeafRowIn (leaf_rows i) (flat_map leaf_rows items) r))
      (leaves_in_place items (All-tail IsLeaf i items l)
      (all_second Allows (leaf_variables i) (flat_map leaf_variables items) v)
      (all_second LeafRowIn (leaf_rows i) (flat_map leaf_rows items) r))

  -- ---- the cost of the leaf objective

  abbrev pub EntryCosts : Rational → Address × Body → Type 0
  EntryCosts q e = q ≤ℚ evaluated one (cost_of e.1) x

  one_costs : (q : Rational) (i : Item) → CostsAtLeast one a x q i
      → All (EntryCosts q) (leaf_objectives i)
  one_costs q i = by i.body
    where
      by : (b : Body) → CostsAtLeast one a x q (record { at = i.at; body = b })
          → All (EntryCosts q) (leaf_objectives (record { at = i.at; body = b }))
      by (Group s vars) h = All-nil (EntryCosts q)
      by (Free vars) h = All-nil (EntryCosts q)
      by (Plain var s) h = All-nil (EntryCosts q)
      by (Affine f s) h = All-nil (EntryCosts q)
      by (PlainVec vars s) h = All-nil (EntryCosts q)
      by (AffineVec fs s) h = All-nil (EntryCosts q)
      by (PlainObj sense var) h =
          All-cons (EntryCosts q) (i.at, PlainObj sense var) [] (h refl) (All-nil (EntryCosts q))
      by (AffineObj sense f) h =
          All-cons (EntryCosts q) (i.at, AffineObj sense f) [] (h refl) (All-nil (EntryCosts q))

  pub entries_cost : (q : Rational) (items : List Item) → All (CostsAtLeast one a x q) items
      → All (EntryCosts q) (flat_map leaf_objectives items)
  entries_cost q [] h = All-nil (EntryCosts q)
  entries_cost q (i ∷ items) h =
      All-append (EntryCosts q) (leaf_objectives i) (flat_map leaf_objectives items)
      (one_costs q i (All-head (CostsAtLeast one a x q) i items h))
      (entries_cost q items (All-tail (CostsAtLeast one a x q) i items h))

only_one : {X : Type 0} (e : X) (xs : List X) → IsPermutation (e ∷ []) xs → xs ≡ e ∷ []
only_one e xs p = by xs (length_permutation (e ∷ []) xs p)
    (All-permutation (λ k. k ≡ e) (e ∷ []) xs p (All-cons (λ k. k ≡ e) e [] refl
    (All-nil (λ k. k ≡ e))))
  where
    by : (ys : List _) → length ys ≡ 1 → All (λ k. k ≡ e) ys → ys ≡ e ∷ []
    by [] n h = absurd (omega (arith, n))
    by (y ∷ []) n h = ap (λ k. k ∷ []) (All-head (λ k. k ≡ e) y [] h)
    by (y ∷ (z ∷ zs)) n h = absurd (omega (arith, n))

pub form_cost_is : (b : Body) → form_cost b ≡ cost_of b
form_cost_is (PlainObj Min var) = refl
form_cost_is (AffineObj Min f) = refl
form_cost_is _ = refl

pub row_no_objective : (f : UserFunc) (s : Set) → is_objective (row_body f s) ≡ false
row_no_objective (func.Plain var) s = refl
row_no_objective (func.Affine f) s = refl
row_no_objective (func.PlainVec vars) s = refl
row_no_objective (func.AffineVec fs) s = refl

pub rows_no_objective : (rows : List Row)
    → All (λ c. is_objective c.body ≡ false) (map row_item rows)
rows_no_objective [] = All-nil (λ c. is_objective c.body ≡ false)
rows_no_objective (r ∷ rows) =
    All-cons (λ c. is_objective c.body ≡ false) (row_item r) (map row_item rows)
    (row_no_objective r.func r.set) (rows_no_objective rows)

-- ---- the user's model

module _ (setting : Setting) (costly : IsCostly (graph_of setting)) (lawful : AreLawful setting)
    (native : SupportsNativeKinds setting) (model : ModelValue) (valid : IsValid model)
    (bridging : FreshBridging setting model) where
  abbrev GroupThere : Item → Type 0
  GroupThere g = IsGroupHere setting costly bridging.choice bridging.chosen lawful g

  abbrev RowThere : Item → Type 0
  RowThere c = IsRowHere setting costly bridging.choice bridging.chosen lawful c

  abbrev pub all_leaves : List Item
  all_leaves = leaves_of_each bridging.made.groups ++ leaves_in bridging.made.others

  pub groups_there : All GroupThere (model_image model).groups
  groups_there =
      All-weaker (λ g. IsHere setting costly bridging.choice bridging.chosen lawful g
      × (is_group g.body ≡ true)) GroupThere
      (λ g h. record { here = h.0; group = h.1 }) (model_image model).groups
      (all_both (IsHere setting costly bridging.choice bridging.chosen lawful)
      (λ g. is_group g.body ≡ true) (model_image model).groups
      (model_groups_here setting costly lawful model valid bridging)
      (All-map (λ g. is_group g.body ≡ true) group_item model.groups (λ k d end. refl)))

  pub others_there : All (λ c. RowThere (put_in bridging.made.entries c)) (model_image model).others
  others_there =
      All-weaker
      (λ c. IsHere setting costly bridging.choice bridging.chosen lawful
      (put_in bridging.made.entries c) × IsFurther c)
      (λ c. RowThere (put_in bridging.made.entries c))
      (λ c h. record {
        here = h.0;
        row = group_stays bridging.made.entries c.body ∙ h.1.no_group;
      })
      (model_image model).others
      (all_both
      (λ c. IsHere setting costly bridging.choice bridging.chosen lawful
      (put_in bridging.made.entries c)) IsFurther (model_image model).others
      (model_others_here setting costly lawful model valid bridging) (further model valid))

  pub inner_apart : Distinct (inner_of (model_image model).groups)
  inner_apart =
      subst Distinct (sym (inner_is model.groups))
      (vars_distinct setting costly lawful model valid bridging)

  parts_are : AreLeavesAndNodes setting all_leaves
      (nodes_of_each bridging.made.groups ++ nodes_in bridging.made.others)
  parts_are =
      both_parts
      (each_are_parts setting costly bridging.choice bridging.chosen lawful native
      bridging.made.groups groups_there)
      (others_are_parts setting costly bridging.choice bridging.chosen lawful native
      bridging.made.others others_there)

  pub native_leaves : All IsLeaf all_leaves
  native_leaves = parts_are.are_leaves

  pub nodes_here : All (IsNode setting) (model_nodes bridging.made)
  unfolding model_nodes
  nodes_here = parts_are.are_nodes

  -- ---- what holds of the maps' entries holds of the leaves

  pub variables_from : (P : Address × LeafVar → Type 0)
      → All P (finite.entries (leaves_of bridging).variables) → All P
      (flat_map leaf_variables all_leaves)
  unfolding model_leaves
  variables_from P h =
      let e = (each_apart setting costly lawful model valid bridging).variables.entries in
      All-permutation P (finite.entries (leaves_of bridging).variables)
      (flat_map leaf_variables all_leaves)
      (IsPermutation-sym (flat_map leaf_variables all_leaves)
      (finite.entries (leaves_of bridging).variables) e) h

  pub rows_from : (P : Address × Body → Type 0)
      → All P (finite.entries (leaves_of bridging).rows) → All P (flat_map leaf_rows all_leaves)
  unfolding model_leaves
  rows_from P h =
      let e = (each_apart setting costly lawful model valid bridging).rows.entries in
      All-permutation P (finite.entries (leaves_of bridging).rows) (flat_map leaf_rows all_leaves)
      (IsPermutation-sym (flat_map leaf_rows all_leaves)
      (finite.entries (leaves_of bridging).rows) e) h

  -- the leaf model's cost is that of the leaf objective
  pub cost_of_one : (e : Address × Body) → flat_map leaf_objectives all_leaves ≡ e ∷ []
      → cost (leaves_of bridging) ≡ cost_of e.1
  unfolding model_leaves
  cost_of_one e one =
      ap cost_among
      (only_one e (finite.entries (leaves_of bridging).objective)
      (subst (λ l. IsPermutation l (finite.entries (leaves_of bridging).objective)) one
      (each_apart setting costly lawful model valid bridging).objective.entries))
      ∙ form_cost_is e.1

  -- with an objective there is one leaf objective
  pub has_leaf : (b : Body) → is_objective b ≡ true
      → objective_items model.objective ≡ objective_item b ∷ [] → HasOneLeafObjective all_leaves
  has_leaf b o here =
      one_behind (leaves_of_each bridging.made.groups) (leaves_in bridging.made.others)
      (none_below_each setting costly bridging.choice bridging.chosen lawful
      bridging.made.groups groups_there)
      (one_in setting costly bridging.choice bridging.chosen lawful bridging.made.others
      others_there
      (subst (λ l. HasOneObjective (map row_item model.rows ++ l)) (sym here)
      (one_last (map row_item model.rows) (objective_item b)
      (rows_no_objective model.rows) o)))

  -- ---- at a point

  module _ (one : Rational) (a : zero_ℚ ≤ℚ one) (x : Address → Rational)
      (feasible : IsLeafFeasible (leaves_of bridging) one x) where
    abbrev pub seen_point : Address → Rational
    seen_point = point_in one a x bridging.made.entries

    pub all_in_place : All (LeafHolds one a x) all_leaves
    all_in_place =
        leaves_in_place one a x all_leaves native_leaves
        (variables_from (Allows one a x) feasible.variables)
        (rows_from (LeafRowIn one a x) feasible.rows)

    pub groups_in_place : GroupsHold one a x setting costly bridging.choice bridging.chosen lawful
        bridging.made.entries (model_image model).groups
    groups_in_place =
        groups_hold one a x setting costly bridging.choice bridging.chosen lawful
        bridging.made.groups groups_there inner_apart
        (all_first (LeafHolds one a x) (leaves_of_each bridging.made.groups)
        (leaves_in bridging.made.others) all_in_place)

    abbrev OtherHolds : Item → Type 0
    OtherHolds c = is_objective c.body ≡ false → HoldsAt one x (put_in bridging.made.entries c)

    others_in_place : All OtherHolds (model_image model).others
    others_in_place =
        rows_hold one a x setting costly bridging.choice bridging.chosen lawful
        bridging.made.others others_there
        (all_second (LeafHolds one a x) (leaves_of_each bridging.made.groups)
        (leaves_in bridging.made.others) all_in_place)

    -- groups and rows hold, as the expressions have the point
    abbrev pub UserGroupIn : (Address → Rational) → UserGroup → Type 0
    UserGroupIn p g = In (multiplied one g.set) (evaluations one (functions_of_group g) p)

    abbrev pub UserRowIn : (Address → Rational) → Row → Type 0
    UserRowIn p r = In (multiplied one r.set) (evaluations one (functions_in r.func) p)

    pub user_groups_seen : All (UserGroupIn seen_point) model.groups
    user_groups_seen =
        all_from_map
        (λ g. Holds one (group_held zero_ℚ no_numbers g) seen_point) group_item model.groups
        (All-weaker
        (λ g. Holds one (through bridging.made.entries (group_held zero_ℚ no_numbers g)) x)
        (λ g. Holds one (group_held zero_ℚ no_numbers g) seen_point)
        (λ g k. to_point one a x bridging.made.entries (group_held zero_ℚ no_numbers g) k)
        (model_image model).groups
        (all_from_map (λ h. Holds one (through bridging.made.entries h) x)
        (group_held zero_ℚ no_numbers) (model_image model).groups
        (all_from_map (λ h. Holds one h x) (through bridging.made.entries)
        (group_helds zero_ℚ no_numbers (model_image model).groups) groups_in_place)))

    row_seen : (r : Row) → OtherHolds (row_item r) → UserRowIn seen_point r
    row_seen r h =
        let held = to_point one a x bridging.made.entries
        (held_body zero_ℚ (row_body r.func r.set) [])
        (subst (λ k. Holds one k x)
        (held_put bridging.made.entries zero_ℚ (row_body r.func r.set) []
        (row_no_group r.func r.set)) (h (row_no_objective r.func r.set)))
        in
        subst (λ s. In (multiplied one s) (evaluations one (functions_in r.func) seen_point))
        (row_sets_are zero_ℚ r.func r.set)
        (subst
        (λ fs. In (multiplied one (row_set zero_ℚ (row_body r.func r.set)))
        (evaluations one fs seen_point))
        (row_functions_are r.func r.set) held)

    pub user_rows_seen : All (UserRowIn seen_point) model.rows
    user_rows_seen =
        All-weaker (λ r. OtherHolds (row_item r)) (UserRowIn seen_point) row_seen model.rows
        (all_from_map OtherHolds row_item model.rows
        (all_first OtherHolds (map row_item model.rows) (objective_items model.objective)
        others_in_place))

    -- and at the user's point
    abbrev pub user_point : Address → Rational
    user_point = at_point model (listed_point model seen_point)

    pub user_groups : All (UserGroupIn user_point) model.groups
    user_groups =
        All-weaker
        (λ g. UserGroupIn seen_point g
        × ((v : Address) → Avoids (all_addresses model.groups) v → Avoids (addresses_of g.vars) v))
        (UserGroupIn user_point)
        (λ g h. subst (In (multiplied one g.set))
        (sym (evaluations_agree model seen_point one (functions_of_group g)
        (λ v n. variables_miss (addresses_of g.vars) v (h.1 v n)))) h.0)
        model.groups
        (all_both (UserGroupIn seen_point)
        (λ g. (v : Address) → Avoids (all_addresses model.groups) v → Avoids (addresses_of g.vars)
        v)
        model.groups user_groups_seen (group_among model.groups))

    pub user_rows : All (UserRowIn user_point) model.rows
    user_rows =
        All-weaker (λ r. UserRowIn seen_point r × IsValidRow model.groups r) (UserRowIn user_point)
        (λ r h. subst (In (multiplied one r.set))
        (sym (evaluations_agree model seen_point one (functions_in r.func)
        (λ v n. subst (λ fs. Miss fs v) (item_functions_are r.func r.set)
        (user_row_misses model.groups r h.1 v n)))) h.0)
        model.rows
        (all_both (UserRowIn seen_point) (IsValidRow model.groups) model.rows user_rows_seen
        valid.parts.valid_rows)

    -- ---- the objective

    module _ (b : Body) (o : is_objective b ≡ true)
        (here : objective_items model.objective ≡ objective_item b ∷ []) where
      abbrev q : Rational
      q = evaluated one (cost_of b) seen_point

      others_cost : All (λ c. CostsAtLeast one a x q (put_in bridging.made.entries c))
          (model_image model).others
      others_cost =
          subst (λ l. All (λ c. CostsAtLeast one a x q (put_in bridging.made.entries c))
          (map row_item model.rows ++ l)) (sym here)
          (All-append (λ c. CostsAtLeast one a x q (put_in bridging.made.entries c))
          (map row_item model.rows) (objective_item b ∷ [])
          (All-map (λ c. CostsAtLeast one a x q (put_in bridging.made.entries c)) row_item
          model.rows
          (each_row model.rows))
          (All-cons (λ c. CostsAtLeast one a x q (put_in bridging.made.entries c))
          (objective_item b) []
          (λ t. ≤ℚ_from_≡ q (evaluated one (cost_of (put_in bridging.made.entries
          (objective_item b)).body) x)
          (cost_put one a x bridging.made.entries (objective_item b) (objective_no_group b o) o))
          (All-nil (λ c. CostsAtLeast one a x q (put_in bridging.made.entries c)))))
        where
          each_row : (rs : List Row)
              → All (λ r. CostsAtLeast one a x q (put_in bridging.made.entries (row_item r))) rs
          each_row [] =
              All-nil (λ r. CostsAtLeast one a x q (put_in bridging.made.entries (row_item r)))
          each_row (r ∷ rs) =
              All-cons (λ k. CostsAtLeast one a x q (put_in bridging.made.entries (row_item k))) r
              rs
              (λ t. absurd (true≢false (sym t
              ∙ objective_stays bridging.made.entries (row_body r.func r.set)
              ∙ row_no_objective r.func r.set)))
              (each_row rs)

      all_cost : All (CostsAtLeast one a x q) all_leaves
      all_cost =
          All-append (CostsAtLeast one a x q) (leaves_of_each bridging.made.groups)
          (leaves_in bridging.made.others)
          (All-weaker CostsNothing (CostsAtLeast one a x q)
          (λ i k t. absurd (true≢false (sym t ∙ k))) (leaves_of_each bridging.made.groups)
          (none_below_each setting costly bridging.choice bridging.chosen lawful
          bridging.made.groups groups_there))
          (costs_in one a x setting costly bridging.choice bridging.chosen lawful
          bridging.made.others q others_there others_cost
          (all_second (LeafHolds one a x) (leaves_of_each bridging.made.groups)
          (leaves_in bridging.made.others) all_in_place))

      -- the user's objective costs no more than the leaf model's
      pub costs_less : q ≤ℚ evaluated one (cost (leaves_of bridging)) x
      costs_less =
          subst (λ f. q ≤ℚ evaluated one f x) (sym (cost_of_one (has_leaf b o here).leaf
          (has_leaf b o here).alone))
          (All-head (EntryCosts one a x q) (has_leaf b o here).leaf []
          (subst (All (EntryCosts one a x q)) (has_leaf b o here).alone
          (entries_cost one a x q all_leaves all_cost)))
