-- In the fresh bridging of a valid model the objective's leaf stands last.
use Rattle.std.specs.Prelude.{◌≡◌, ◌<◌, zero, suc, true, false, List, [], ◌∷◌, ◌++◌, All, Contains, flat_map, map, refl}
use Rattle.std.specs.FinMap.{entries}
use Rattle.std.specs.Map.{keys_of}
use Rattle.std.specs.declared.cmp.Ordering.TheVariants.{Less}
use Rattle.std.proofs.Common.{arith, inl, inr, sym, ap, ap₂, subst, true≢false, ◌∙◌}
use Rattle.std.proofs.lemmas.Grind.{flat_map-append}
use Rattle.std.proofs.lemmas.List.Elements.{All-cons, All-nil, All-weaker}
use Rattle.std.proofs.lemmas.List.Sorted.{All-permutation}
use Rattle.bridge_graph.specs.Hypergraph.{IsCostly}
use Rattle.expansion.specs.Read.{leaves_in, leaves_of_each, model_leaves}
use Rattle.aff_core.specs.Address.{Address, address_cmp, root_number}
use Rattle.item_core.specs.declared.item.Body.{Body}
use Rattle.item_core.specs.declared.item.Body.TheVariants.{AffineObj, Free, Group, PlainObj}
use Rattle.item_core.specs.declared.item.Item.{Item}
use Rattle.bridge_face.specs.Law.{is_objective}
use Rattle.user_model.specs.Model.{ModelValue, variable_address}
use Rattle.user_model.specs.Valid.{IsValid}
use Rattle.user_model.specs.declared.function.UserFunc.{UserFunc}
use Rattle.user_model.specs.declared.function.UserFunc.TheVariants as func
use Rattle.user_model.specs.declared.group.Group.{Group as UserGroup}
use Rattle.user_model.specs.declared.group.GroupVar.{GroupVar}
use Rattle.user_model.specs.declared.objective.Objective.{Objective}
use Rattle.user_model.specs.declared.objective.Objective.TheVariants as objective
use Rattle.user_model.specs.declared.row.Row.{Row}
use Rattle.set_core.specs.declared.set.Set.{Set}
use Rattle.fresh_bridging.specs.CanLaws.{AreLawful}
use Rattle.fresh_bridging.specs.FreshBridging.{FreshBridging, leaves_of}
use Rattle.fresh_bridging.specs.Leaves.{leaf_objectives, leaf_rows, leaf_variables}
use Rattle.fresh_bridging.specs.ModelImage.{group_item, model_image, objective_item, objective_items, row_body, row_item}
use Rattle.fresh_bridging.specs.ModelLaws.{IsFurther, further}
use Rattle.fresh_bridging.specs.TheRules.{Setting, graph_of}
use Rattle.map_laws.specs.EachLaws.{all_from_map}
use Rattle.address_laws.specs.Distinct.{EachApart}
use Rattle.address_laws.specs.DistinctLaws.{each_apart, model_groups_here, model_others_here}
use Rattle.address_laws.specs.KeyLaws.{AreKeys, within_each}
use Rattle.address_laws.specs.Keys.{Mine, keys_in, keys_of_each}
use Rattle.address_laws.specs.LeafKeys.{alone_are, keys_of-flat_map, leaf_keys_in, leaf_keys_of_each, leaf_variables_are, no_keys, objective_keys, row_keys, rows_alone}
use Rattle.address_laws.specs.Regions.{AtOrBelow}
use Rattle.bridged_order_laws.specs.AboveLaws.{AllBefore, Before, both_before, root_less}
use Rattle.bridged_order_laws.specs.TreeLaws.{IsNoGroup, IsNoObjective, LeadInOrder, cross, last_in_others, none_of_each}

-- ---- what has no leaf of an objective has no leaf variable or row of one

variables_none : (item : Item) → is_objective item.body ≡ true
    → keys_of (leaf_variables item) ≡ []
variables_none item h = by item.body h
  where
    by : (b : Body) → is_objective b ≡ true
        → keys_of (leaf_variables (record { at = item.at; body = b })) ≡ []
    by (Group set vars) h = absurd (true≢false (sym h))
    by (Free vars) h = absurd (true≢false (sym h))
    by _ h = refl

rows_none : (item : Item) → is_objective item.body ≡ true → row_keys item ≡ []
rows_none item h = by item.body h
  where
    by : (b : Body) → is_objective b ≡ true → row_keys (record { at = item.at; body = b }) ≡ []
    by (PlainObj sense var) h = refl
    by (AffineObj sense func) h = refl
    by _ h = absurd (true≢false (sym h))

-- ---- the model's items

row_plain : (f : UserFunc) (set : Set) → is_objective (row_body f set) ≡ false
row_plain (func.Plain var) set = refl
row_plain (func.Affine f) set = refl
row_plain (func.PlainVec vars) set = refl
row_plain (func.AffineVec fs) set = refl

-- an objective's address is at the objective's root
abbrev IsAtRoot : Item → Type 0
IsAtRoot y = is_objective y.body ≡ true → root_number y.at.root ≡ 3

objective_at_root : (o : Objective) → All IsAtRoot (objective_items o)
objective_at_root objective.Feasibility = All-nil IsAtRoot
objective_at_root (objective.Plain sense var) =
    All-cons IsAtRoot (objective_item (PlainObj sense var)) [] (λ _. refl) (All-nil IsAtRoot)
objective_at_root (objective.Affine sense f) =
    All-cons IsAtRoot (objective_item (AffineObj sense f)) [] (λ _. refl) (All-nil IsAtRoot)

all_at_root : (rows : List Row) (o : Objective)
    → All IsAtRoot (map row_item rows ++ objective_items o)
all_at_root [] o = objective_at_root o
all_at_root (r ∷ rows) o =
    All-cons IsAtRoot (row_item r) (map row_item rows ++ objective_items o)
    (λ h. absurd (true≢false (sym h ∙ row_plain r.func r.set))) (all_at_root rows o)

below_root : (item : Item) (v : Address) → AtOrBelow item v
    → root_number v.root ≡ root_number item.at.root
below_root item v b = ap (λ (u : Address). root_number u.root) b.is

all_lead : (rows : List Row) (o : Objective) → LeadInOrder (map row_item rows ++ objective_items o)
all_lead [] objective.Feasibility = tt
all_lead [] (objective.Plain sense var) = inl refl
all_lead [] (objective.Affine sense f) = inl refl
all_lead (r ∷ rows) o =
    inr (
      row_plain r.func r.set,
      All-weaker IsAtRoot
          (λ y. is_objective y.body ≡ true → (v w : Address) → AtOrBelow (row_item r) v
          → AtOrBelow y w → address_cmp v w ≡ Less)
          (λ y h is v w b c.
          let low : root_number v.root ≡ 2 = below_root (row_item r) v b in
          let high : root_number w.root ≡ 3 = below_root y w c ∙ h is in
          root_less v w (omega (arith, low, high)))
          (map row_item rows ++ objective_items o) (all_at_root rows o),
      all_lead rows o,
    )

-- ---- leaves of groups

-- of a group or of a variable
abbrev IsLow : Address → Type 0
IsLow v = root_number v.root < 2

number_low : (vars : List GroupVar) (v : Address)
    → Contains (map (λ (x : GroupVar). variable_address x.number) vars) v → IsLow v
number_low [] v (place, inside, is) = absurd (omega (arith, inside))
number_low (x ∷ xs) v (zero, inside, is) =
    let same : 0 ≡ root_number v.root = ap (λ (u : Address). root_number u.root) is in
    omega (arith, same)
number_low (x ∷ xs) v (suc place, inside, is) = number_low xs v (place, omega (arith, inside), is)

group_low : (g : UserGroup) (v : Address) → Mine (group_item g) v → IsLow v
group_low g v (inl b) =
    let same : root_number v.root ≡ 1 = ap (λ (u : Address). root_number u.root) b.is in
    omega (arith, same)
group_low g v (inr c) = number_low g.vars v c

each_group_low : (gs : List UserGroup)
    → All (λ (g : Item). (v : Address) → Mine g v → IsLow v) (map group_item gs)
each_group_low [] = All-nil (λ (g : Item). (v : Address) → Mine g v → IsLow v)
each_group_low (g ∷ gs) =
    All-cons (λ (g : Item). (v : Address) → Mine g v → IsLow v) (group_item g)
    (map group_item gs) (group_low g) (each_group_low gs)

each_group_plain : (gs : List UserGroup) → All IsNoObjective (map group_item gs)
each_group_plain [] = All-nil IsNoObjective
each_group_plain (g ∷ gs) =
    All-cons IsNoObjective (group_item g) (map group_item gs) refl (each_group_plain gs)

-- ---- the fresh bridging

-- the address of each of these is below that of each of those
abbrev pub Precede : {X Y : Type 0} → List (Address × X) → List (Address × Y) → Type 0
Precede es os = All (λ o. All (λ e. address_cmp e.0 o.0 ≡ Less) es) os

module _ (setting : Setting) (costly : IsCostly (graph_of setting)) (lawful : AreLawful setting)
    (model : ModelValue) (valid : IsValid model) (bridging : FreshBridging setting model) where
  alone : All IsNoGroup (model_image model).others
  alone = All-weaker IsFurther IsNoGroup (λ c h. h.no_group) (model_image model).others
      (further model valid)

  module _ (of_leaf : Item → List Address) (are : AreKeys of_leaf no_keys)
      (native : (item : Item) → is_objective item.body ≡ true → of_leaf item ≡ []) where
    abbrev of_groups : List Address
    of_groups = keys_of_each of_leaf no_keys bridging.made.groups

    abbrev of_others : List Address
    of_others = keys_in of_leaf no_keys bridging.made.others

    abbrev objectives : List Address
    objectives = keys_in objective_keys no_keys bridging.made.others

    groups_are_low : All IsLow of_groups
    groups_are_low =
        within_each setting costly bridging.choice bridging.chosen lawful of_leaf no_keys are IsLow
        bridging.made.groups (model_groups_here setting costly lawful model valid bridging)
        (each_group_low model.groups)

    groups_before : AllBefore of_groups objectives
    groups_before =
        cross setting costly bridging.choice bridging.chosen lawful bridging.made.others
        (model_others_here setting costly lawful model valid bridging) alone of_groups
        (All-weaker IsAtRoot
        (λ y. is_objective y.body ≡ true → (o : Address) → AtOrBelow y o → Before of_groups o)
        (λ y h is o b.
        let high : root_number o.root ≡ 3 = below_root y o b ∙ h is in
        All-weaker IsLow (λ v. address_cmp v o ≡ Less)
        (λ v low. root_less v o (omega (arith, low, high))) of_groups
        groups_are_low)
        (model_image model).others (all_at_root model.rows model.objective))

    no_group_objectives : keys_of_each objective_keys no_keys bridging.made.groups ≡ []
    no_group_objectives =
        none_of_each setting costly bridging.choice bridging.chosen lawful bridging.made.groups
        (model_groups_here setting costly lawful model valid bridging)
        (each_group_plain model.groups)

    pub all_before : AllBefore (of_groups ++ of_others)
        (keys_of_each objective_keys no_keys bridging.made.groups ++ objectives)
    all_before =
        subst (λ os. AllBefore (of_groups ++ of_others) (os ++ objectives))
        (sym no_group_objectives)
        (both_before of_groups of_others objectives groups_before
        (last_in_others setting costly bridging.choice bridging.chosen lawful of_leaf are native
        bridging.made.others (model_others_here setting costly lawful model valid bridging) alone
        (all_lead model.rows model.objective)))

  -- the keys of leaves, as they are listed
  listed_keys : {X : Type 0} (f : Item → List (Address × X))
      → keys_of_each (λ i. keys_of (f i)) no_keys bridging.made.groups
      ++ keys_in (λ i. keys_of (f i)) no_keys bridging.made.others
      ≡ keys_of (flat_map f (model_leaves bridging.made))
  unfolding model_leaves
  listed_keys f =
      ap₂ ◌++◌ (leaf_keys_of_each (λ i. keys_of (f i)) bridging.made.groups)
      (leaf_keys_in (λ i. keys_of (f i)) bridging.made.others)
      ∙ sym (flat_map-append (λ i. keys_of (f i)) (leaves_of_each bridging.made.groups)
      (leaves_in bridging.made.others))
      ∙ sym (keys_of-flat_map f (leaves_of_each bridging.made.groups ++ leaves_in
      bridging.made.others))

  from_keys : {X Y : Type 0} (es : List (Address × X)) (os : List (Address × Y))
      → AllBefore (keys_of es) (keys_of os) → Precede es os
  from_keys es os h =
      All-weaker (λ o. Before (keys_of es) o.0) (λ o. All (λ e. address_cmp e.0 o.0 ≡ Less) es)
      (λ o k. all_from_map (λ v. address_cmp v o.0 ≡ Less) (λ e. e.0) es k) os
      (all_from_map (Before (keys_of es)) (λ o. o.0) os h)

  permuted : {X Y : Type 0} (es es' : List (Address × X)) (os os' : List (Address × Y))
      → ((o : Address × Y) → All (λ e. address_cmp e.0 o.0 ≡ Less) es
      → All (λ e. address_cmp e.0 o.0 ≡ Less) es')
      → (Precede es' os → Precede es' os') → Precede es os → Precede es' os'
  permuted es es' os os' one other h =
      other (All-weaker (λ o. All (λ e. address_cmp e.0 o.0 ≡ Less) es)
      (λ o. All (λ e. address_cmp e.0 o.0 ≡ Less) es') one os h)

  apart : EachApart bridging
  apart = each_apart setting costly lawful model valid bridging

  -- of leaves that are one list and one map
  precede : {X : Type 0} (f : Item → List (Address × X)) (es : List (Address × X))
      → AreKeys (λ i. keys_of (f i)) no_keys
      → ((item : Item) → is_objective item.body ≡ true → keys_of (f item) ≡ [])
      → ((P : Address × X → Type 0) → All P (flat_map f (model_leaves bridging.made)) → All P es)
      → Precede es (entries (leaves_of bridging).objective)
  precede f es are native moved =
      permuted (flat_map f (model_leaves bridging.made)) es
      (flat_map leaf_objectives (model_leaves bridging.made))
      (entries (leaves_of bridging).objective)
      (λ o h. moved (λ e. address_cmp e.0 o.0 ≡ Less) h)
      (λ h. All-permutation (λ o. All (λ e. address_cmp e.0 o.0 ≡ Less) es)
      (flat_map leaf_objectives (model_leaves bridging.made))
      (entries (leaves_of bridging).objective) apart.objective.entries h)
      (from_keys (flat_map f (model_leaves bridging.made))
      (flat_map leaf_objectives (model_leaves bridging.made))
      (subst (λ vs. AllBefore vs (keys_of (flat_map leaf_objectives (model_leaves bridging.made))))
      (listed_keys f)
      (subst
      (AllBefore (keys_of_each (λ i. keys_of (f i)) no_keys bridging.made.groups
      ++ keys_in (λ i. keys_of (f i)) no_keys bridging.made.others))
      (listed_keys leaf_objectives) (all_before (λ i. keys_of (f i)) are native))))

  pub variables_precede :
      Precede (entries (leaves_of bridging).variables) (entries (leaves_of bridging).objective)
  variables_precede =
      precede leaf_variables (entries (leaves_of bridging).variables) leaf_variables_are
      variables_none
      (λ P. All-permutation P (flat_map leaf_variables (model_leaves bridging.made))
      (entries (leaves_of bridging).variables) apart.variables.entries)

  pub rows_precede :
      Precede (entries (leaves_of bridging).rows) (entries (leaves_of bridging).objective)
  rows_precede =
      precede leaf_rows (entries (leaves_of bridging).rows) (alone_are row_keys rows_alone)
      rows_none
      (λ P. All-permutation P (flat_map leaf_rows (model_leaves bridging.made))
      (entries (leaves_of bridging).rows) apart.rows.entries)
