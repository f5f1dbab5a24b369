-- An edit of a model whose fresh bridging is held, or another table for it: what is to be bridged anew,
-- the search for what that touches, and what is planned of it.
--     KeepsAt           the choices at and below the item at an address are others nowhere
--     Separates         two models are the same but for some items
--     AttachedEdit              the fresh bridging is held of the model before by the table before; which items
--                       are to be bridged anew
--     IsSearch          the rows and the objective that are found by variables that change
--     AreChanging AreAllOwn     these are those that change, or all of the groups to be bridged anew
--     IsPlanned         what is planned of all that is found
--     PlannedEdit              all that precedes the change of what is held
use Rattle.std.specs.FinMap as finite
use Rattle.std.specs.Prelude.{◌≡◌, ◌++◌, ◌&&◌, ◌||◌, ℕ, Bool, true, false, cond, not, List, Option, Some, None, filter, flat_map, is_some, map, All, Contains}
use Rattle.std.specs.List.{filter_map, list_any}
use Rattle.std.specs.Option.{option_copied, option_map_or}
use Rattle.address_map.specs.AddressMap.{AddressMap}
use Rattle.address_map.specs.Noted.{noted_in, noted_items}
use Rattle.aff_core.specs.Address.{Address, address_eq}
use Rattle.bridge_face.specs.BridgeState.{BridgeState}
use Rattle.bridge_face.specs.declared.kept_item.KeptItem.{KeptItem}
use Rattle.bridge_graph.specs.Hypergraph.{IsCostly}
use Rattle.bridge_graph.specs.declared.Choice.{Choice}
use Rattle.bridge_plan.specs.AddsHeld.{kept_of}
use Rattle.bridge_plan.specs.Means.{AreSound}
use Rattle.bridge_plan.specs.Worked.{worked, worked_each, worked_in}
use Rattle.bridge_set.specs.Bridges.{Bridges, families_of, means_of, occur_once, setting_by, setting_of}
use Rattle.bridge_set.specs.Nodes.{HoldNodes}
use Rattle.expansion.specs.Grown.{Held}
use Rattle.found_plan.specs.Read.{is_marked, named_by, own_entries, read_entries}
use Rattle.fresh_bridging.specs.CanLaws.{AreLawful}
use Rattle.fresh_bridging.specs.Entries.{Entry, expression_in, function_in, is_kept}
use Rattle.fresh_bridging.specs.FreshBridging.{FreshBridging, is_made, leaves_of}
use Rattle.fresh_bridging.specs.ModelImage.{group_item}
use Rattle.fresh_bridging.specs.TheRules.{Setting, graph_of}
use Rattle.fresh_bridging.specs.Touched.{IsTouched, KeepsAtEach, KeepsAtIn, choice_of_item, item_at}
use Rattle.item_core.specs.declared.item.Item.{Item}
use Rattle.item_core.specs.declared.kind.Kind.{Kind}
use Rattle.item_core.specs.declared.table.Table.{Table}
use Rattle.leaf_model.specs.ReadThrough.{read_through}
use Rattle.leaf_update.specs.Named.{NamesEach}
use Rattle.leaf_update.specs.Others.{among}
use Rattle.local_laws.specs.Sound.{IsValidUnder}
use Rattle.model_bridging.specs.Expressions.{expressions_by}
use Rattle.model_bridging.specs.Found.{found_others, kept_over}
use Rattle.model_bridging.specs.Kinds.{first_missing, kind_by, kinds_as_they_stand}
use Rattle.model_bridging.specs.ModelHeld.{unfit, unfit_put}
use Rattle.model_bridging.specs.Planned.{kept_variables}
use Rattle.push_laws.specs.HandedLaws.{is_found}
use Rattle.solver_store.specs.SolverModel.{Leaves}
use Rattle.touched_items.specs.DifferenceLaws.{objective_address}
use Rattle.touched_items.specs.Differences.{rows_in, differing_addresses, groups_in, own_variables, variables_in}
use Rattle.touched_items.specs.HeldExpressions.{stays_as}
use Rattle.touched_items.specs.IndexLaws.{other_names, row_names}
use Rattle.touched_items.specs.Search.{AreInOrder, objective_among, row_at}
use Rattle.touched_items.specs.declared.differing.ModelItems.{ModelItems}
use Rattle.touched_items.specs.declared.differing.Differing.{Differing}
use Rattle.tree_laws.specs.LeafLaws.{SupportsNativeKinds}
use Rattle.user_model.specs.Model.{ModelValue, objective_mentions}
use Rattle.user_model.specs.Valid.{IsValid}
use Rattle.user_model.specs.declared.group.Group.{Group}
use Rattle.user_model.specs.declared.objective.Objective.{Objective}
use Rattle.user_model.specs.declared.row.Row.{Row}
use Rattle.item_core.specs.Kind.{kind_count}

-- the fresh bridging of the model, which is valid, and in which each number fits
pub record HoldsBridging (setting : Setting) (states : List BridgeState) (solver : Leaves)
    (places : AddressMap) (objective_at : Address) (model : ModelValue) : Type 0 where
  pub valid : IsValid model
  pub bridging : FreshBridging setting model
  pub made : is_made bridging ≡ true
  pub leaves : read_through places solver objective_at ≡ leaves_of bridging
  pub named : NamesEach places solver
  pub kept : HoldNodes bridging states
  pub exprs : places.exprs ≡ expressions_by bridging
  pub noted :
      (var at : Address)
      → is_some (finite.get (noted_in places.noted var) at) ≡ other_names model var at
  pub marks : places.kept ≡ finite.from_entries (map (λ v. (v, tt)) (kept_variables bridging))

-- the row at the address, or the objective, is one of the items and names the variable
abbrev pub contents_name : ModelItems → Address → Address → Bool
contents_name contents var at =
    list_any (λ row. row_names row var at) (rows_in contents)
    || (address_eq at objective_address
    && option_map_or (objective_mentions var) (option_copied contents.objective) false)

-- at the nodes and leaves below the item at the address the choice is the same
abbrev pub KeepsAt : {setting : Setting} {model : ModelValue} → FreshBridging setting model
    → (ℕ → Choice) → Address → Type 0
KeepsAt bridging choice at =
    KeepsAtEach (choice_of_item choice) at bridging.made.groups
    × KeepsAtIn (choice_of_item choice) at bridging.made.others

-- of the model's groups those at these addresses are the ones that are given
abbrev pub AreGroupsAt : ModelValue → List Address → List Group → Type 0
AreGroupsAt model addresses given =
    filter (is_found addresses) (map group_item model.groups) ≡ map group_item given

-- beside the items that are given the models are the same
pub record Separates (model after : ModelValue) (d : Differing) : Type 0 where
  pub same :
      (at : Address) → ¬ (Contains (differing_addresses d) at)
      → item_at model at ≡ item_at after at
  pub before : AreGroupsAt model (differing_addresses d) (groups_in d.before)
  pub behind : AreGroupsAt after (differing_addresses d) (groups_in d.after)
  pub named :
      (var at : Address) → contents_name d.before var at ≡ true → other_names model var at ≡ true
  pub names :
      (var at : Address)
      → ((other_names model var at && not (contents_name d.before var at))
      || contents_name d.after var at)
      ≡ other_names after var at

pub record AttachedEdit : Type 0 where
  -- by the table to be chosen by, keeping what was kept by the one before
  pub bridges : Bridges
  pub table : Table
  pub solver : Leaves
  pub places : AddressMap
  pub objective_at : Address
  pub model : ModelValue
  pub after : ModelValue
  pub sound : AreSound (means_of bridges)
  pub native : SupportsNativeKinds (setting_of bridges)
  pub once : occur_once (families_of bridges.states) ≡ true
  pub costly : IsCostly (graph_of (setting_by table bridges.states))
  pub lawful : AreLawful (setting_by table bridges.states)
  pub native_before : SupportsNativeKinds (setting_by table bridges.states)
  pub held :
      HoldsBridging (setting_by table bridges.states) bridges.states solver places objective_at model
  pub valid : IsValid after
  pub d : Differing
  pub separates : Separates model after d
  -- an item that isn't given is bridged as it was
  pub alike :
      (at : Address) → ¬ (Contains (differing_addresses d) at)
      → KeepsAt held.bridging (means_of bridges).choice at
  -- and each that is given is touched
  pub touched :
      (new : FreshBridging (setting_of bridges) after)
      → All (IsTouched held.bridging new) (differing_addresses d)

module _ (e : AttachedEdit) where
  abbrev pub setting_here : Setting
  setting_here = setting_of e.bridges

  abbrev pub choice_here : ℕ → Choice
  choice_here = (means_of e.bridges).choice

  abbrev pub setting_before : Setting
  setting_before = setting_by e.table e.bridges.states

  abbrev pub old_here : FreshBridging (setting_by e.table e.bridges.states) e.model
  old_here = e.held.bridging

  pub sound_before : IsValidUnder (setting_by e.table e.bridges.states) e.model
  sound_before = record {
    costly = e.costly;
    lawful = e.lawful;
    valid = e.held.valid;
  }

  pub sound_behind : IsValidUnder (setting_of e.bridges) e.after
  sound_behind = record {
    costly = e.sound.costly;
    lawful = e.sound.lawful;
    valid = e.valid;
  }

  -- ---- groups

  -- the groups to be bridged anew, as they are
  abbrev pub groups_now : List Item
  groups_now = map group_item (groups_in e.d.after)

  abbrev pub missing_groups : Option Kind
  missing_groups = first_missing choice_here (kinds_as_they_stand groups_now)

  abbrev pub unfit_groups : Option Item
  unfit_groups = unfit choice_here kind_count groups_now

  abbrev pub groups_held : Held Item Entry
  groups_held = worked_each choice_here (worked choice_here kind_count) groups_now

  -- ---- the search

  pub record IsSearch (changed addresses : List Address) (rows : List Row)
      (objective : Option Objective) : Type 0 where
    pub order :
        AreInOrder (differing_addresses e.d ++ flat_map (noted_items e.places.noted) changed)
        addresses
    pub rows_are : rows ≡ filter_map (row_at e.after) addresses
    pub objective_is : objective ≡ objective_among e.after addresses

  -- by the variables of the groups to be bridged anew which change, as these groups are planned
  pub record AreChanging (standing : List Entry) (changed : List Address) : Type 0 where
    pub trees : missing_groups ≡ None
    pub fit : unfit_groups ≡ None
    pub stands : expression_in standing ≡ expression_in groups_held.entries
    pub changes :
        changed
        ≡ filter (λ v. not (stays_as e.places v (expression_in standing v))) (own_variables e.d)

  -- by all of these variables
  pub record AreAllOwn (changed : List Address) : Type 0 where
    pub trees : missing_groups ≡ None
    pub all : changed ≡ own_variables e.d

  -- what is kept, by the groups to be bridged anew or else by the marks
  abbrev pub kept_now : Address → Bool
  kept_now = kept_over choice_here (is_marked e.places) groups_now

  -- the first of the further items that are found which lacks a tree
  abbrev pub missing_others : List Row → Option Objective → Option Kind
  missing_others rows objective =
      first_missing choice_here
      (map (λ i. kind_by kept_now i.body) (found_others rows objective))

  -- ---- the plan

  -- what stands for the variables that the found rows and the objective name
  abbrev pub IsStandingFor : List Entry → List Row → Option Objective → List Entry → Type 0
  IsStandingFor standing rows objective further =
      expression_in further
      ≡ expression_in (own_entries standing (groups_in e.d.after)
      ++ read_entries e.places (named_by rows objective))

  abbrev pub others_held : List Entry → List Row → Option Objective → Held Item Entry
  others_held further rows objective =
      worked_in choice_here (worked choice_here kind_count) further (found_others rows objective)

  pub record IsPlanned (further : List Entry) (rows : List Row) (objective : Option Objective)
      (leaves : List Item) (nodes : List KeptItem) : Type 0 where
    pub fit : unfit_put choice_here kind_count further (found_others rows objective) ≡ None
    pub leaves_are : leaves ≡ groups_held.leaves ++ (others_held further rows objective).leaves
    pub nodes_are :
        nodes
        ≡ map kept_of groups_held.nodes ++ map kept_of (others_held further rows objective).nodes

-- ---- all of an edit that is accepted, before what is held is changed

pub record PlannedEdit (e : AttachedEdit) : Type 0 where
  pub standing : List Entry
  pub changed : List Address
  pub addresses : List Address
  pub rows : List Row
  pub objective : Option Objective
  pub further : List Entry
  pub leaves : List Item
  pub nodes : List KeptItem
  pub changing : AreChanging e standing changed
  pub search : IsSearch e changed addresses rows objective
  pub trees : missing_others e rows objective ≡ None
  pub stands : IsStandingFor e standing rows objective further
  pub planned : IsPlanned e further rows objective leaves nodes

-- ---- and what the map has after it

-- what the groups to be bridged anew were is gone, and what they are is there; so of the rows and the
-- objective
pub record IsMappedAnew (e : AttachedEdit) (standing : List Entry) (places : AddressMap) : Type 0 where
  pub exprs :
      (v : Address)
      → finite.get places.exprs v
      ≡ cond (among (variables_in (groups_in e.d.after)) v) (Some (function_in standing v))
      (cond (among (variables_in (groups_in e.d.before)) v) None (finite.get e.places.exprs v))
  pub marks :
      (v : Address)
      → is_marked places v
      ≡ cond (among (variables_in (groups_in e.d.after)) v) (is_kept (expression_in standing v))
      (not (among (variables_in (groups_in e.d.before)) v) && is_marked e.places v)
  pub noted :
      (var at : Address)
      → is_some (finite.get (noted_in places.noted var) at)
      ≡ ((is_some (finite.get (noted_in e.places.noted var) at)
      && not (contents_name e.d.before var at))
      || contents_name e.d.after var at)
