-- In a solver's model that is read as the leaves of a fresh bridging, of which bridges keep the nodes,
-- the objective is read at the address to which the bridges lead.
use Rattle.std.specs.Prelude.{◌≡◌, ℕ, zero, suc, Bool, true, false, cond, List, [], ◌∷◌, ◌++◌, All, Contains, IsSome, Option, Some, None, flat_map, map, refl}
use Rattle.std.specs.BTreeMap.{is_at}
use Rattle.std.specs.FinMap as finite
use Rattle.std.specs.Map.{keys_of, lookup}
use Rattle.std.specs.Option.{option_map, option_map_or}
use Rattle.std.proofs.Common.{arith, sym, ap, ap₂, subst, ◌∙◌, true≢false}
use Rattle.std.proofs.lemmas.Grind.{flat_map-append}
use Rattle.std.proofs.lemmas.List.{map-append}
use Rattle.std.proofs.lemmas.List.Elements.{All-contains, Contains-append_left, Contains-append_right}
use Rattle.std.proofs.lemmas.Option.{none-some}
use Rattle.bridge_graph.specs.Hypergraph.{IsCostly}
use Rattle.expansion.specs.Read.{leaves_in, leaves_of_each, model_leaves, model_nodes, nodes_in, nodes_of_each}
use Rattle.address_map.specs.AddressMap.{AddressMap}
use Rattle.aff_core.specs.Address.{Address, address_cmp, address_eq, address_eq-Decides, address_total, root_address}
use Rattle.aff_core.specs.declared.root.Root.TheVariants as root
use Rattle.item_core.specs.declared.item.Body.{Body}
use Rattle.item_core.specs.declared.item.Body.TheVariants.{PlainObj, AffineObj}
use Rattle.item_core.specs.declared.item.Item.{Item}
use Rattle.bridge_face.specs.Law.{is_objective}
use Rattle.bridge_face.specs.BridgeState.{BridgeState}
use Rattle.bridge_plan.specs.AddsHeld.{kept_of}
use Rattle.bridge_set.specs.Bridges.{kept_first}
use Rattle.fresh_bridging.specs.CanLaws.{AreLawful}
use Rattle.fresh_bridging.specs.FreshBridging.{FreshBridging, leaves_of, nodes_of}
use Rattle.fresh_bridging.specs.Leaves.{leaf_objectives}
use Rattle.fresh_bridging.specs.ModelImage.{objective_item, objective_items, row_item}
use Rattle.fresh_bridging.specs.TheRules.{Setting, graph_of}
use Rattle.leaf_model.specs.LeafModel.{LeafModel}
use Rattle.leaf_model.specs.ReadThrough.{read_objective, read_through}
use Rattle.map_laws.specs.EachLaws.{contains_here}
use Rattle.map_laws.specs.MadeLaws.{get_made}
use Rattle.solver_store.specs.SolverModel.{Leaves}
use Rattle.solver_store.specs.declared.leaf.LeafObjective.{LeafObjective}
use Rattle.user_model.specs.Model.{ModelValue}
use Rattle.user_model.specs.Valid.{IsValid}
use Rattle.user_model.specs.declared.objective.Objective.{Objective}
use Rattle.user_model.specs.declared.objective.Objective.TheVariants as objective
use Rattle.address_laws.specs.Apart.{Avoids, Distinct}
use Rattle.address_laws.specs.DistinctLaws.{model_keys_distinct}
use Rattle.address_laws.specs.KeyLaws.{AreKeys}
use Rattle.address_laws.specs.Keys.{keys_in, keys_of_each}
use Rattle.address_laws.specs.LeafKeys.{alone_are, at_of, its_key, keys_of_nodes, leaf_keys_in, leaf_keys_of_each, no_keys, node_keys_in, node_keys_of_each, nodes_are, objective_keys, objectives_alone}
use Rattle.address_laws.specs.MadeLaws.{absent}
use Rattle.tree_laws.specs.BesideLaws.{all_beside}
use Rattle.tree_laws.specs.LeafLaws.{SupportsNativeKinds}
use Rattle.tree_laws.specs.ObjectiveLaws.{itself_one, none_below_each}
use Rattle.tree_laws.specs.ObjectivePart.{none_here}
use Rattle.tree_laws.specs.PrimalLaws.{groups_there, others_there, rows_no_objective}
use Rattle.objective_laws.specs.DownLaws.{LeadsToLeaf, OneAt, alone_behind, last_at, leads_in}
use Rattle.objective_laws.specs.ObjectivePlace.{BridgesLeadTo}

-- ---- by address

-- an objective leaf has its own address
objective_key : (i : Item) → is_objective i.body ≡ true → objective_keys i ≡ i.at ∷ []
objective_key i o = ap keys_of (itself_one i o)

in_keys : (is : List Item) (i : Item) → Contains is i → is_objective i.body ≡ true
    → Contains (flat_map objective_keys is) i.at
in_keys [] i c o = absurd (omega (arith, c.1))
in_keys (j ∷ js) i (zero, inside, is) o =
    Contains-append_left (objective_keys j) (flat_map objective_keys js) i.at
    (subst (λ ks. Contains ks i.at)
    (sym (subst (λ (k : Item). objective_keys k ≡ i.at ∷ []) (sym is) (objective_key i o)))
    (contains_here i.at []))
in_keys (j ∷ js) i (suc n, inside, is) o =
    Contains-append_right (objective_keys j) (flat_map objective_keys js) i.at
    (in_keys js i (n, omega (arith, inside), is) o)

-- nodes, each at the address of its item
abbrev by_address : List (ℕ × Item) → List (Address × (ℕ × Item))
by_address ns = map (λ n. (n.1.at, n)) ns

abbrev look : Address → List (ℕ × Item) → Option (ℕ × Item)
look v ns = lookup (is_at (address_cmp v)) (by_address ns)

-- where each address stands once, a node is found at its own
looked : (ns : List (ℕ × Item)) (n : ℕ × Item) → Distinct (keys_of (by_address ns))
    → Contains ns n → look n.1.at ns ≡ Some n
looked [] n d c = absurd (omega (arith, c.1))
looked (m ∷ ms) n d (zero, inside, is) =
    ap (λ b. cond b (Some m) (look n.1.at ms))
    ((address_eq-Decides n.1.at m.1.at).1 (ap (λ (k : ℕ × Item). k.1.at) (sym is)))
    ∙ ap Some is
looked (m ∷ ms) n d (suc i, inside, is) =
    by (address_eq n.1.at m.1.at) refl (looked ms n d.1 (i, omega (arith, inside), is))
  where
    by : (b : Bool) → address_eq n.1.at m.1.at ≡ b → look n.1.at ms ≡ Some n
        → cond b (Some m) (look n.1.at ms) ≡ Some n
    by true e found =
        absurd (none-some n (sym (absent (by_address ms) n.1.at
        (subst (Avoids (keys_of (by_address ms))) (sym ((address_eq-Decides n.1.at m.1.at).0 e))
        d.0)) ∙ found))
    by false e found = found

-- one entry alone stands at its own address
one_place : (at : Address) (b : Body) (e : Address × Body)
    → finite.insert (finite.empty {R = address_cmp}) at b
    ≡ finite.from_entries {R = address_cmp} (e ∷ []) → at ≡ e.0
one_place at b e same = by (address_eq at e.0) refl found
  where
    found : cond (address_eq at e.0) (Some e.1) None ≡ Some b
    found =
        sym (get_made address_total (e ∷ []) at)
        ∙ sym (ap (λ m. finite.get m at) same)
        ∙ finite.get-insert address_total finite.empty at b at
        ∙ ap (λ t. cond t (Some b) (finite.get (finite.empty {R = address_cmp}) at))
        ((address_eq-Decides at at).1 refl)

    by : (t : Bool) → address_eq at e.0 ≡ t → cond t (Some e.1) None ≡ Some b → at ≡ e.0
    by true d f = (address_eq-Decides at e.0).0 d
    by false d f = absurd (none-some b f)

none_place : (at : Address) (b : Body)
    → ¬ (finite.insert (finite.empty {R = address_cmp}) at b ≡ finite.from_entries [])
none_place at b same =
    none-some b
    (sym (get_made address_total [] at)
    ∙ sym (ap (λ m. finite.get m at) same)
    ∙ finite.get-insert address_total finite.empty at b at
    ∙ ap (λ t. cond t (Some b) (finite.get (finite.empty {R = address_cmp}) at))
    ((address_eq-Decides at at).1 refl))

-- ---- in a bridging

module _ (setting : Setting) (costly : IsCostly (graph_of setting)) (lawful : AreLawful setting)
    (native : SupportsNativeKinds setting) (model : ModelValue) (valid : IsValid model)
    (bridging : FreshBridging setting model) (states : List BridgeState)
    (kept : (v : Address)
    → kept_first states v ≡ option_map kept_of (finite.get (nodes_of bridging) v)) where
  abbrev all_nodes : List (ℕ × Item)
  all_nodes = model_nodes bridging.made

  node_keys_are : keys_of_each no_keys its_key bridging.made.groups
      ++ keys_in no_keys its_key bridging.made.others ≡ keys_of (by_address all_nodes)
  unfolding model_nodes
  node_keys_are =
      ap₂ ◌++◌ (node_keys_of_each bridging.made.groups) (node_keys_in bridging.made.others)
      ∙ sym (map-append at_of (nodes_of_each bridging.made.groups)
      (nodes_in bridging.made.others))
      ∙ sym (keys_of_nodes (nodes_of_each bridging.made.groups ++ nodes_in bridging.made.others))

  nodes_distinct : Distinct (keys_of (by_address all_nodes))
  nodes_distinct =
      subst Distinct node_keys_are
      (model_keys_distinct setting costly lawful model valid bridging no_keys
      its_key nodes_are)

  found_at : (v : Address)
      → kept_first states v ≡ option_map kept_of (look v all_nodes)
  found_at v =
      kept v ∙ ap (option_map kept_of) (get_made address_total (by_address all_nodes) v)

  all_kept : (n : ℕ × Item) → Contains all_nodes n → kept_first states n.1.at ≡ Some (kept_of n)
  all_kept n c =
      found_at n.1.at ∙ ap (option_map kept_of) (looked all_nodes n nodes_distinct c)

  objectives_and_nodes : AreKeys objective_keys its_key
  objectives_and_nodes = record {
    leaf_mine = (alone_are objective_keys objectives_alone).leaf_mine;
    leaf_once = (alone_are objective_keys objectives_alone).leaf_once;
    node_here = nodes_are.node_here;
    node_once = nodes_are.node_once;
  }

  objective_keys_are : keys_of_each objective_keys no_keys bridging.made.groups
      ++ keys_in objective_keys no_keys bridging.made.others
      ≡ flat_map objective_keys (model_leaves bridging.made)
  unfolding model_leaves
  objective_keys_are =
      ap₂ ◌++◌ (leaf_keys_of_each objective_keys bridging.made.groups)
      (leaf_keys_in objective_keys bridging.made.others)
      ∙ sym (flat_map-append objective_keys (leaves_of_each bridging.made.groups)
      (leaves_in bridging.made.others))

  -- no node stands at a leaf objective's address
  beside : All (Avoids (keys_of (by_address all_nodes)))
      (flat_map objective_keys (model_leaves bridging.made))
  beside =
      subst (λ ks. All (Avoids ks) (flat_map objective_keys (model_leaves bridging.made)))
      node_keys_are
      (subst (All (Avoids (keys_of_each no_keys its_key bridging.made.groups
      ++ keys_in no_keys its_key bridging.made.others)))
      objective_keys_are
      (all_beside objective_keys its_key bridging.made.groups bridging.made.others
      (model_keys_distinct setting costly lawful model valid bridging
      objective_keys its_key objectives_and_nodes)))

  none_kept : (i : Item) → Contains (model_leaves bridging.made) i → is_objective i.body ≡ true
      → kept_first states i.at ≡ None
  none_kept i c o =
      found_at i.at
      ∙ ap (option_map kept_of)
      (absent (by_address all_nodes) i.at
      (All-contains (Avoids (keys_of (by_address all_nodes)))
      (flat_map objective_keys (model_leaves bridging.made)) i.at beside
      (in_keys (model_leaves bridging.made) i c o)))

  -- the model's one leaf objective
  with_one : (b : Body) → is_objective b ≡ true
      → objective_items model.objective ≡ objective_item b ∷ []
      → LeadsToLeaf states (root_address root.Objective 0) (model_leaves bridging.made)
  unfolding model_leaves model_nodes
  with_one b o e =
      let one =
      leads_in setting costly bridging.choice bridging.chosen lawful states
      (root_address root.Objective 0) bridging.made.others
      (others_there setting costly lawful native model valid bridging)
      (subst (λ l. OneAt (root_address root.Objective 0) (map row_item model.rows ++ l)) (sym e)
      (last_at (map row_item model.rows) (objective_item b) (rows_no_objective model.rows) o))
      (λ n c. all_kept n (Contains-append_right (nodes_of_each bridging.made.groups)
      (nodes_in bridging.made.others) n c))
      (λ i c. none_kept i (Contains-append_right (leaves_of_each bridging.made.groups)
      (leaves_in bridging.made.others) i c))
      in
      record {
        leaf = one.leaf;
        alone = alone_behind (leaves_of_each bridging.made.groups) (leaves_in bridging.made.others)
            one.leaf
            (none_below_each setting costly bridging.choice bridging.chosen lawful
            bridging.made.groups (groups_there setting costly lawful native model valid bridging))
            one.alone;
        leads = one.leads;
      }

  no_leaf : objective_items model.objective ≡ []
      → flat_map leaf_objectives (model_leaves bridging.made) ≡ []
  unfolding model_leaves leaves_of_each
  no_leaf = none_here setting costly lawful native model valid bridging

  module _ (places : AddressMap) (solver : Leaves) (at : Address) where
    abbrev Goal : Type 0
    Goal = BridgesLeadTo states (root_address root.Objective 0) at

    -- read through the map it has its place
    abbrev IsPlaced : LeafObjective → Type 0
    IsPlaced o = finite.insert finite.empty at (read_objective places.vars.indices o)
        ≡ (leaves_of bridging).objective

    of_leads : (o : LeafObjective) → IsPlaced o
        → LeadsToLeaf states (root_address root.Objective 0) (model_leaves bridging.made) → Goal
    of_leads o same one =
        subst (BridgesLeadTo states (root_address root.Objective 0))
        (sym (one_place at (read_objective places.vars.indices o) one.leaf
        (same ∙ ap (finite.from_entries {R = address_cmp}) one.alone))) one.leads

    of_none : (o : LeafObjective) → IsPlaced o → objective_items model.objective ≡ [] → Goal
    of_none o same e =
        absurd (none_place at (read_objective places.vars.indices o)
        (same ∙ ap (finite.from_entries {R = address_cmp}) (no_leaf e)))

    placed : (o : LeafObjective) → IsPlaced o → Goal
    placed o same = by model.objective refl
      where
        by : (u : Objective) → model.objective ≡ u → Goal
        by objective.Feasibility e = of_none o same (ap objective_items e)
        by (objective.Plain sense var) e =
            of_leads o same (with_one (PlainObj sense var) refl (ap objective_items e))
        by (objective.Affine sense func) e =
            of_leads o same (with_one (AffineObj sense func) refl (ap objective_items e))

    -- a solver's model that is read as the bridging's leaves
    pub objective_leads : read_through places solver at ≡ leaves_of bridging
        → IsSome solver.objective → Goal
    objective_leads read some =
        by solver.objective some (ap (λ (m : LeafModel). m.objective) read)
      where
        by : (o : Option LeafObjective) → IsSome o
            → option_map_or
            (λ p. finite.insert finite.empty at (read_objective places.vars.indices p)) o
            finite.empty
            ≡ (leaves_of bridging).objective
            → Goal
        by None is same = absurd (true≢false (sym is))
        by (Some o) is same = placed o same
