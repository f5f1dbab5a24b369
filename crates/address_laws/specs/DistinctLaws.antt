-- In the fresh bridging of a valid model each leaf and each node stands at an address of its own.
use Rattle.std.specs.Prelude.{◌≡◌, ◌⊎◌, ◌<◌, ℕ, zero, suc, List, [], ◌∷◌, ◌++◌, All, Contains, flat_map, map}
use Rattle.std.specs.Map.{keys_of}
use Rattle.std.proofs.Common.{arith, inl, inr, sym, ap, ap₂, subst, ◌∙◌}
use Rattle.std.proofs.lemmas.Grind.{flat_map-append}
use Rattle.std.proofs.lemmas.List.{map-append}
use Rattle.std.proofs.lemmas.List.Elements.{All-append, All-cons, All-head, All-map, All-nil, All-tail, All-weaker, Contains-append_left, Contains-append_right}
use Rattle.bridge_graph.specs.Hypergraph.{IsCostly}
use Rattle.expansion.specs.Read.{leaves_in, leaves_of_each, model_leaves, model_nodes, nodes_in, nodes_of_each}
use Rattle.aff_core.specs.Address.{Address, root_number}
use Rattle.aff_core.specs.declared.root.Root.TheVariants as root
use Rattle.item_core.specs.declared.item.Body.{Body}
use Rattle.item_core.specs.declared.item.Body.TheVariants.{PlainObj, AffineObj}
use Rattle.item_core.specs.declared.item.Item.{Item}
use Rattle.numbered_list.specs.Laws.{Rise-head, Rise-tail}
use Rattle.numbered_list.specs.Numbered.{Rise}
use Rattle.user_model.specs.Consistent.{variable_number}
use Rattle.user_model.specs.Edited.{group_number, row_number}
use Rattle.user_model.specs.Model.{ModelValue, variable_address, variables}
use Rattle.user_model.specs.Valid.{IsValid}
use Rattle.user_model.specs.declared.group.Group.{Group as UserGroup}
use Rattle.user_model.specs.declared.group.GroupVar.{GroupVar}
use Rattle.user_model.specs.declared.objective.Objective.{Objective}
use Rattle.user_model.specs.declared.objective.Objective.TheVariants as objective
use Rattle.user_model.specs.declared.row.Row.{Row}
use Rattle.fresh_bridging.specs.CanLaws.{AreLawful, Can}
use Rattle.map_laws.specs.EachLaws.{all_both}
use Rattle.fresh_bridging.specs.Entries.{put_in}
use Rattle.fresh_bridging.specs.ExistenceLaws.{groups_can_all, others_can_all, trees_of_bridged}
use Rattle.fresh_bridging.specs.FreshBridging.{FreshBridging, HasTree}
use Rattle.fresh_bridging.specs.Leaves.{leaf_objectives, leaf_rows, leaf_variables}
use Rattle.fresh_bridging.specs.ModelImage.{group_item, model_image, objective_item, objective_items, row_item}
use Rattle.fresh_bridging.specs.ModelLaws.{IsFurther, further, not_owned}
use Rattle.fresh_bridging.specs.OmitLaws.{IsBelow, IsGroup}
use Rattle.fresh_bridging.specs.TheRules.{Setting, graph_of}
use Rattle.address_laws.specs.Apart.{Avoids, Distinct, avoids, distinct-append, distinct-first, distinct-second, in_first, not_in}
use Rattle.address_laws.specs.Distinct.{EachApart}
use Rattle.address_laws.specs.KeyLaws.{AreKeys, IsHere, avoid_in, once_in_each, once_in_others, other_below, own_none, within_each}
use Rattle.address_laws.specs.Keys.{Mine, keys_in, keys_of_each, own}
use Rattle.address_laws.specs.LeafKeys.{alone_are, its_key, keys_of-flat_map, keys_of_nodes, leaf_keys_in, leaf_keys_of_each, leaf_variables_are, no_keys, node_keys_in, node_keys_of_each, nodes_are, objective_keys, objectives_alone, row_keys, rows_alone, variable_keys, variables_are}
use Rattle.address_laws.specs.MadeLaws.{made_exactly}
use Rattle.address_laws.specs.PutLaws.{group_stays}
use Rattle.address_laws.specs.Regions.{AreRegionsApart, AtOrBelow, apart_less}

-- ---- the variables of the model

abbrev pub numbered : List GroupVar → List Address
numbered vars = map (λ v. variable_address v.number) vars

abbrev number_of : Address → ℕ
number_of a = a.number

numbered_distinct : (vars : List GroupVar) → Rise variable_number vars → Distinct (numbered vars)
numbered_distinct [] rise = tt
numbered_distinct (v ∷ vars) rise = (
  All-map (λ k. ¬ (k ≡ variable_address v.number)) (λ w. variable_address w.number) vars
      (All-weaker (λ w. v.number < w.number) (λ w. ¬ (variable_address w.number ≡ variable_address
      v.number))
      (λ w h e. let same : w.number ≡ v.number = ap number_of e in omega (arith, h, same)) vars
      (Rise-head variable_number v vars rise)),
  numbered_distinct vars (Rise-tail variable_number v vars rise),
)

abbrev pub all_numbered : List UserGroup → List Address
all_numbered groups = numbered (flat_map (λ g. g.vars) groups)

split_vars : (g : UserGroup) (gs : List UserGroup)
    → all_numbered (g ∷ gs) ≡ numbered g.vars ++ all_numbered gs
split_vars g gs = map-append (λ v. variable_address v.number) g.vars (flat_map (λ h. h.vars) gs)

-- ---- groups are apart

pub numbered_root : (vars : List GroupVar) (v : Address) → Contains (numbered vars) v
    → v.root ≡ root.Variable
numbered_root [] v (place, inside, is) = absurd (omega (arith, inside))
numbered_root (x ∷ xs) v (zero, inside, is) = ap (λ (u : Address). u.root) (sym is)
numbered_root (x ∷ xs) v (suc place, inside, is) =
    numbered_root xs v (place, omega (arith, inside), is)

apart_roots : (g : UserGroup) (v : Address) → IsBelow (group_item g).at v
    → v.root ≡ root.Variable → ⊥
apart_roots g v b e =
    let n : 1 ≡ 0 = ap root_number (sym (ap (λ (u : Address). u.root) b.is) ∙ e) in
    omega (arith, n)

clash : (g h : UserGroup) (v : Address) → g.id < h.id
    → (Contains (numbered g.vars) v → Avoids (numbered h.vars) v)
    → Mine (group_item g) v → Mine (group_item h) v → ⊥
clash g h v less other (inl a) (inl b) =
    let same : g.id ≡ h.id = ap number_of (sym a.is ∙ b.is) in omega (arith, same, less)
clash g h v less other (inl a) (inr c) = apart_roots g v a (numbered_root h.vars v c)
clash g h v less other (inr c) (inl b) = apart_roots h v b (numbered_root g.vars v c)
clash g h v less other (inr c) (inr d) = not_in (numbered h.vars) v (other c) d

rest_apart : (g : UserGroup) (v : Address) → Mine (group_item g) v → (hs : List UserGroup)
    → All (λ h. g.id < h.id) hs → (Contains (numbered g.vars) v → Avoids (all_numbered hs) v)
    → All (λ y. ¬ (Mine y v)) (map group_item hs)
rest_apart g v m [] less other = All-nil (λ y. ¬ (Mine y v))
rest_apart g v m (h ∷ hs) less other =
    All-cons (λ y. ¬ (Mine y v)) (group_item h) (map group_item hs)
    (clash g h v (All-head (λ k. g.id < k.id) h hs less)
    (λ c. avoids (numbered h.vars) v (λ d. not_in (all_numbered (h ∷ hs)) v (other c)
    (subst (λ ks. Contains ks v) (sym (split_vars h hs))
    (Contains-append_left (numbered h.vars) (all_numbered hs) v d)))) m)
    (rest_apart g v m hs (All-tail (λ k. g.id < k.id) h hs less)
    (λ c. avoids (all_numbered hs) v (λ d. not_in (all_numbered (h ∷ hs)) v (other c)
    (subst (λ ks. Contains ks v) (sym (split_vars h hs))
    (Contains-append_right (numbered h.vars) (all_numbered hs) v d)))))

pub groups_of_model_apart : (groups : List UserGroup) → Rise group_number groups
    → Distinct (all_numbered groups) → AreRegionsApart Mine (map group_item groups)
groups_of_model_apart [] rise d = tt
groups_of_model_apart (g ∷ gs) rise d =
    let parts : Distinct (numbered g.vars ++ all_numbered gs) = subst Distinct (split_vars g gs) d
    in (
      λ v m. rest_apart g v m gs (Rise-head group_number g gs rise)
          (in_first (numbered g.vars) (all_numbered gs) v parts),
      groups_of_model_apart gs (Rise-tail group_number g gs rise)
          (distinct-second (numbered g.vars) (all_numbered gs) parts),
    )

each_group_distinct : (groups : List UserGroup) → Distinct (all_numbered groups)
    → All (λ g. Distinct (numbered g.vars)) groups
each_group_distinct [] d = All-nil (λ g. Distinct (numbered g.vars))
each_group_distinct (g ∷ gs) d =
    let parts : Distinct (numbered g.vars ++ all_numbered gs) = subst Distinct (split_vars g gs) d
    in
    All-cons (λ h. Distinct (numbered h.vars)) g gs
    (distinct-first (numbered g.vars) (all_numbered gs) parts)
    (each_group_distinct gs (distinct-second (numbered g.vars) (all_numbered gs) parts))

-- ---- rows and the objective are apart

objective_below : (o : Objective) (v : Address) → v.root ≡ root.Row
    → All (λ y. ¬ (AtOrBelow y v)) (objective_items o)
objective_below o v is = by o
  where
    other : (b : Body) → ¬ (AtOrBelow (objective_item b) v)
    other b k =
        let n : 2 ≡ 3 = ap root_number (sym is ∙ ap (λ (u : Address). u.root) k.is) in
        omega (arith, n)

    by : (o : Objective) → All (λ y. ¬ (AtOrBelow y v)) (objective_items o)
    by objective.Feasibility = All-nil (λ y. ¬ (AtOrBelow y v))
    by (objective.Plain sense var) =
        All-cons (λ y. ¬ (AtOrBelow y v)) (objective_item (PlainObj sense var)) []
        (other (PlainObj sense var)) (All-nil (λ y. ¬ (AtOrBelow y v)))
    by (objective.Affine sense func) =
        All-cons (λ y. ¬ (AtOrBelow y v)) (objective_item (AffineObj sense func)) []
        (other (AffineObj sense func)) (All-nil (λ y. ¬ (AtOrBelow y v)))

objective_apart : (o : Objective) → AreRegionsApart AtOrBelow (objective_items o)
objective_apart objective.Feasibility = tt
objective_apart (objective.Plain sense var) = (λ v b. All-nil (λ y. ¬ (AtOrBelow y v)), tt)
objective_apart (objective.Affine sense func) = (λ v b. All-nil (λ y. ¬ (AtOrBelow y v)), tt)

pub others_of_model_apart : (rows : List Row) (o : Objective) → Rise row_number rows
    → AreRegionsApart AtOrBelow (map row_item rows ++ objective_items o)
others_of_model_apart [] o rise = objective_apart o
others_of_model_apart (r ∷ rows) o rise = (
  λ v b. All-append (λ y. ¬ (AtOrBelow y v)) (map row_item rows) (objective_items o)
      (All-map (λ y. ¬ (AtOrBelow y v)) row_item rows
      (All-weaker (λ s. r.id < s.id) (λ s. ¬ (AtOrBelow (row_item s) v))
      (λ s less k. let same : r.id ≡ s.id = ap number_of (sym b.is ∙ k.is) in omega
      (arith, same, less))
      rows (Rise-head row_number r rows rise)))
      (objective_below o v (ap (λ (u : Address). u.root) b.is)),
  others_of_model_apart rows o (Rise-tail row_number r rows rise),
)

-- ---- the fresh bridging

module _ (setting : Setting) (costly : IsCostly (graph_of setting)) (lawful : AreLawful setting)
    (model : ModelValue) (valid : IsValid model) (bridging : FreshBridging setting model) where
  abbrev AreTrees : Type 0
  AreTrees = All (HasTree (graph_of setting)) (model_image model).groups
      × All (λ item. HasTree (graph_of setting) (put_in bridging.made.entries item))
      (model_image model).others

  trees : AreTrees
  trees = trees_of_bridged setting costly bridging.choice bridging.chosen lawful
      (model_image model) bridging.made

  abbrev pub IsHereNow : Item → Type 0
  IsHereNow item = IsHere setting costly bridging.choice bridging.chosen lawful item

  pub vars_distinct : Distinct (all_numbered model.groups)
  vars_distinct = numbered_distinct (variables model) valid.consistent.variables_rise

  pub model_groups_here : All IsHereNow (model_image model).groups
  model_groups_here =
      All-weaker
      (λ g. IsGroup setting costly bridging.choice bridging.chosen lawful g × Distinct (own g))
      IsHereNow (λ g h. record { can = h.0.can; once = h.1 }) (model_image model).groups
      (all_both (IsGroup setting costly bridging.choice bridging.chosen lawful)
      (λ g. Distinct (own g)) (model_image model).groups
      (groups_can_all setting costly bridging.choice bridging.chosen lawful model valid trees.0)
      (All-map (λ g. Distinct (own g)) group_item model.groups
      (each_group_distinct model.groups vars_distinct)))

  pub model_others_here : All (λ c. IsHereNow (put_in bridging.made.entries c))
      (model_image model).others
  model_others_here =
      All-weaker
      (λ c. Can setting costly bridging.choice bridging.chosen (put_in bridging.made.entries c)
      × IsFurther c)
      (λ c. IsHereNow (put_in bridging.made.entries c))
      (λ c h. record {
        can = h.0;
        once = own_none (put_in bridging.made.entries c)
            (group_stays bridging.made.entries c.body ∙ h.1.no_group);
      })
      (model_image model).others
      (all_both
      (λ c. Can setting costly bridging.choice bridging.chosen (put_in bridging.made.entries c))
      IsFurther (model_image model).others
      (others_can_all setting costly bridging.choice bridging.chosen lawful model valid
      bridging.made.entries bridging.made.groups trees.1)
      (further model valid))

  abbrev pub MineNow : Item → Address → Type 0
  MineNow c v = Mine (put_in bridging.made.entries c) v

  pub model_others_below : All (λ c. (v : Address) → MineNow c v → AtOrBelow c v)
      (model_image model).others
  model_others_below =
      All-weaker IsFurther (λ c. (v : Address) → MineNow c v → AtOrBelow c v)
      (λ c h v m. other_below (put_in bridging.made.entries c)
      (group_stays bridging.made.entries c.body ∙ h.no_group) v m)
      (model_image model).others (further model valid)

  -- what is a group's isn't a row's
  pub model_beside : (g : UserGroup) (v : Address) → Mine (group_item g) v
      → All (λ c. ¬ (MineNow c v)) (model_image model).others
  model_beside g v m =
      All-weaker (λ c. IsFurther c × ((w : Address) → MineNow c w → AtOrBelow c w))
      (λ c. ¬ (MineNow c v))
      (λ c h k. not_owned g v (which c h.0 (h.1 v k)) m)
      (model_image model).others
      (all_both IsFurther (λ c. (w : Address) → MineNow c w → AtOrBelow c w)
      (model_image model).others (further model valid) model_others_below)
    where
      which : (c : Item) → IsFurther c → AtOrBelow c v
          → (v.root ≡ root.Row) ⊎ (v.root ≡ root.Objective)
      which c h b = moved h.root
        where
          same : v.root ≡ c.at.root
          same = ap (λ (u : Address). u.root) b.is

          moved : (c.at.root ≡ root.Row) ⊎ (c.at.root ≡ root.Objective)
              → (v.root ≡ root.Row) ⊎ (v.root ≡ root.Objective)
          moved (inl e) = inl (same ∙ e)
          moved (inr e) = inr (same ∙ e)

  module _ (of_leaf of_node : Item → List Address) (are : AreKeys of_leaf of_node) where
    pub model_keys_distinct :
        Distinct (keys_of_each of_leaf of_node bridging.made.groups
        ++ keys_in of_leaf of_node bridging.made.others)
    model_keys_distinct =
        distinct-append (keys_of_each of_leaf of_node bridging.made.groups)
        (keys_in of_leaf of_node bridging.made.others)
        (once_in_each setting costly bridging.choice bridging.chosen lawful of_leaf of_node are
        bridging.made.groups model_groups_here
        (groups_of_model_apart model.groups valid.consistent.groups_rise vars_distinct))
        (once_in_others setting costly bridging.choice bridging.chosen lawful of_leaf of_node are
        bridging.made.others model_others_here
        (apart_less AtOrBelow MineNow (model_image model).others model_others_below
        (others_of_model_apart model.rows model.objective valid.consistent.rows_rise)))
        (within_each setting costly bridging.choice bridging.chosen lawful of_leaf of_node are
        (Avoids (keys_in of_leaf of_node bridging.made.others)) bridging.made.groups
        model_groups_here
        (All-map
        (λ g. (v : Address) → Mine g v
        → Avoids (keys_in of_leaf of_node bridging.made.others) v)
        group_item model.groups (each_group model.groups)))
      where
        each_group : (gs : List UserGroup)
            → All (λ g. (v : Address) → Mine (group_item g) v
            → Avoids (keys_in of_leaf of_node bridging.made.others) v) gs
        each_group [] =
            All-nil (λ g. (v : Address) → Mine (group_item g) v
            → Avoids (keys_in of_leaf of_node bridging.made.others) v)
        each_group (g ∷ gs) =
            All-cons (λ h. (v : Address) → Mine (group_item h) v
            → Avoids (keys_in of_leaf of_node bridging.made.others) v) g gs
            (λ v m. avoid_in setting costly bridging.choice bridging.chosen lawful of_leaf of_node
            are bridging.made.others model_others_here v (model_beside g v m))
            (each_group gs)

  leaf_keys_distinct : {X : Type 0} (f : Item → List (Address × X))
      → AreKeys (λ i. keys_of (f i)) no_keys
      → Distinct (keys_of (flat_map f (model_leaves bridging.made)))
  unfolding model_leaves
  leaf_keys_distinct f are =
      subst Distinct
      (ap₂ ◌++◌ (leaf_keys_of_each (λ i. keys_of (f i)) bridging.made.groups)
      (leaf_keys_in (λ i. keys_of (f i)) bridging.made.others)
      ∙ sym (flat_map-append (λ i. keys_of (f i)) (leaves_of_each bridging.made.groups)
      (leaves_in bridging.made.others))
      ∙ sym (keys_of-flat_map f (leaves_of_each bridging.made.groups ++ leaves_in
      bridging.made.others)))
      (model_keys_distinct (λ i. keys_of (f i)) no_keys are)

  pub variables_distinct :
      Distinct (keys_of (flat_map leaf_variables (model_leaves bridging.made)))
  variables_distinct = leaf_keys_distinct leaf_variables leaf_variables_are

  pub rows_distinct : Distinct (keys_of (flat_map leaf_rows (model_leaves bridging.made)))
  rows_distinct = leaf_keys_distinct leaf_rows (alone_are row_keys rows_alone)

  pub objectives_distinct :
      Distinct (keys_of (flat_map leaf_objectives (model_leaves bridging.made)))
  objectives_distinct =
      leaf_keys_distinct leaf_objectives (alone_are objective_keys objectives_alone)

  nodes_distinct : Distinct (keys_of (map (λ n. (n.1.at, n)) (model_nodes bridging.made)))
  unfolding model_nodes
  nodes_distinct =
      subst Distinct
      (ap₂ ◌++◌ (node_keys_of_each bridging.made.groups) (node_keys_in bridging.made.others)
      ∙ sym (map-append (λ n. n.1.at) (nodes_of_each bridging.made.groups)
      (nodes_in bridging.made.others))
      ∙ sym (keys_of_nodes (nodes_of_each bridging.made.groups ++ nodes_in bridging.made.others)))
      (model_keys_distinct no_keys its_key nodes_are)

  pub each_apart : EachApart bridging
  each_apart = record {
    variables = made_exactly (flat_map leaf_variables (model_leaves bridging.made))
        variables_distinct;
    rows = made_exactly (flat_map leaf_rows (model_leaves bridging.made)) rows_distinct;
    objective = made_exactly (flat_map leaf_objectives (model_leaves bridging.made))
        objectives_distinct;
    nodes = made_exactly (map (λ n. (n.1.at, n)) (model_nodes bridging.made)) nodes_distinct;
  }
