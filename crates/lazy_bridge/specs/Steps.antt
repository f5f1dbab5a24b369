-- The steps of an edit of a bridged model, as one function hands them to the next.
--     IsEditOf          an edit is of these bridges, this map and these models
--     IsRefusedBy       why it isn't made: an item has no tree, or a number doesn't fit
--     changing_variables      those of the groups that differ that change
--     AreGroupsOf       the groups that differ are planned
--     IsPlannedOf       all that it touches is
--     IsChangedOf       what is planned stands in the place of what was held
--     IsPushedTo        what a whole edit answers and leaves
use Rattle.std.specs.Prelude.{◌≡◌, ◌≤◌, ◌+◌, ◌*◌, ℕ, true, List, None, Some, Result, Ok, Err, filter, length, map, not}
use Rattle.address_map.specs.AddressMap.{AddressMap}
use Rattle.aff_core.specs.Address.{Address}
use Rattle.bridge_set.specs.Bridges.{Bridges, families_of, means_of, occur_once, setting_of}
use Rattle.bridge_set.specs.Turns.{turns_of}
use Rattle.bridge_plan.specs.AddsHeld.{kept_of}
use Rattle.bridge_plan.specs.Means.{AreSound}
use Rattle.bridge_plan.specs.declared.plan.Plan.{Plan}
use Rattle.fresh_bridging.specs.Entries.{Entry, expression_in}
use Rattle.fresh_bridging.specs.FreshBridging.{FreshBridging, IsUnsupported, unfit_at}
use Rattle.fresh_bridging.specs.Touched.{IsInner, IsTouched}
use Rattle.leaf_update.specs.Splice.{KeepsIndices}
use Rattle.leaf_model.specs.LeafModel.{IsChangeCount, IsCountOf}
use Rattle.leaf_model.specs.ReadThrough.{read_through}
use Rattle.local_laws.specs.Unlisted.{LeadBackTo, entries_of}
use Rattle.model_bridging.specs.PlanOutcome.{IsFirstAt}
use Rattle.model_bridging.specs.declared.fault.PushFault.{PushFault}
use Rattle.model_bridging.specs.declared.fault.PushFault.TheVariants.{Unsupported, Overflow, Memory}
use Rattle.lazy_bridge.specs.declared.pushing.Planned.{Planned}
use Rattle.push_laws.specs.Composed.{IsDone}
use Rattle.push_laws.specs.Edits.{AttachedEdit, PlannedEdit, groups_held, missing_groups, setting_here, unfit_groups, HoldsBridging}
use Rattle.solver_store.specs.SolverModel.{StoredLeaves}
use Rattle.tree_laws.specs.LeafLaws.{SupportsNativeKinds}
use Rattle.touched_items.specs.Differences.{own_variables}
use Rattle.touched_items.specs.HeldExpressions.{stays_as}
use Rattle.touched_items.specs.declared.differing.Differing.{Differing}
use Rattle.user_model.specs.Model.{ModelValue}
use Rattle.user_model.specs.Valid.{IsValid}
use Rattle.user_model.specs.declared.undo.Undo.{Undo}

-- the edit is of bridges that choose and keep what these do, and of this map, this model after it, and
-- these differences
pub record IsEditOf (e : AttachedEdit) (bridges : Bridges) (places : AddressMap) (after : ModelValue)
    (d : Differing) : Type 0 where
  pub means : means_of bridges ≡ means_of e.bridges
  pub mapped : places ≡ e.places
  pub model : after ≡ e.after
  pub differing : d ≡ e.d

-- ---- refusals

abbrev pub IsRefusedBy : AttachedEdit → PushFault → Type 0
IsRefusedBy e (Unsupported kind) = IsUnsupported (setting_here e) e.after kind
IsRefusedBy e (Overflow at) =
    (bridging : FreshBridging (setting_here e) e.after) × (unfit_at bridging ≡ Some at)
IsRefusedBy e Memory = Unit {0}

-- no item that is found by all variables lacks a tree: then the first group of which a number doesn't
-- fit is the reason
abbrev pub IsPassedBy : AttachedEdit → Result (Unit {0}) PushFault → Type 0
IsPassedBy e (Ok x) =
    (at : Address) → IsFirstAt (unfit_groups e) at → IsRefusedBy e (Overflow at)
IsPassedBy e (Err fault) = IsRefusedBy e fault

-- ---- what is planned

-- the variables of the groups that differ for which something else is to stand than the map has
abbrev pub changing_variables : AddressMap → List Entry → Differing → List Address
changing_variables places standing d =
    filter (λ v. not (stays_as places v (expression_in standing v))) (own_variables d)

pub record AreGroupsOf (e : AttachedEdit) (standing : List Entry) (plan : Plan) : Type 0 where
  pub trees : missing_groups e ≡ None
  pub fit : unfit_groups e ≡ None
  pub stands : expression_in standing ≡ expression_in (groups_held e).entries
  pub leaves : plan.leaves.items ≡ (groups_held e).leaves
  pub nodes : plan.nodes.items ≡ map kept_of (groups_held e).nodes

pub record IsPlannedOf (e : AttachedEdit) (standing : List Entry) (found : List Address) (plan : Plan)
    : Type 0 where
  pub step : PlannedEdit e
  pub stands : step.standing ≡ standing
  pub addresses : step.addresses ≡ found
  pub leaves : step.leaves ≡ plan.leaves.items
  pub nodes : step.nodes ≡ plan.nodes.items

-- all that is found, beside the groups
abbrev pub IsFoundBy : {T : Type 0} → Result T PushFault → (T → List Address) → AttachedEdit → List Entry
    → Plan → Type 0
IsFoundBy (Ok found) items e standing plan = IsPlannedOf e standing (items found) plan
IsFoundBy (Err fault) items e standing plan = IsRefusedBy e fault

abbrev pub IsEditPlanned : AttachedEdit → Result Planned PushFault → Type 0
IsEditPlanned e (Ok planned) = IsPlannedOf e planned.standing planned.found.items planned.plan
IsEditPlanned e (Err fault) = IsRefusedBy e fault

-- ---- what is changed

-- the edit is of these parts
pub record IsHeldBy (e : AttachedEdit) (bridges : Bridges) (solver : StoredLeaves) (places : AddressMap)
    (objective_at : Address) (d : Differing) : Type 0 where
  pub means : means_of bridges ≡ means_of e.bridges
  pub leaves : solver.leaves ≡ e.solver
  pub mapped : places ≡ e.places
  pub objective : objective_at ≡ e.objective_at
  pub differing : d ≡ e.d

-- the answer is the number of addresses at which leaves changed, with no more calls than that and no
-- more turns than two for each node, and the fresh bridging of the model after stands
pub record IsChangedOf (e : AttachedEdit) (step : PlannedEdit e) (bridges : Bridges) (solver : StoredLeaves)
    (places : AddressMap) (objective_at : Address) (changed : ℕ) (bridges_after : Bridges)
    (solver_after : StoredLeaves) (places_after : AddressMap) (objective_after : Address)
    : Type 0 where
  pub done :
      (start : ℕ) → turns_of bridges.states ≤ start + length step.nodes
      → IsDone e step (setting_of bridges_after) bridges_after.states solver_after.leaves
      places_after objective_after start (turns_of bridges_after.states)
  pub counted :
      IsChangeCount (read_through places solver.leaves objective_at)
      (read_through places_after solver_after.leaves objective_after) changed
  pub rises : solver.leaves.calls ≤ solver_after.leaves.calls
  pub calls : solver_after.leaves.calls ≤ solver.leaves.calls + changed
  pub variables : KeepsIndices places.vars.indices places_after.vars.indices
  pub rows : KeepsIndices places.rows.indices places_after.rows.indices

-- ---- all of it

-- the fresh bridging of a model stands, to which undos lead back from a valid one
pub record IsStart (bridges : Bridges) (solver : StoredLeaves) (places : AddressMap) (objective_at : Address)
    (model : ModelValue) (undos : List Undo) (after : ModelValue) : Type 0 where
  pub sound : AreSound (means_of bridges)
  pub once : occur_once (families_of bridges.states) ≡ true
  pub native : SupportsNativeKinds (setting_of bridges)
  pub held :
      HoldsBridging (setting_of bridges) bridges.states solver.leaves places objective_at model
  pub back : LeadBackTo model undos after
  pub valid : IsValid after

-- what holds afterwards
pub record Parts : Type 0 where
  pub bridges : Bridges
  pub solver : StoredLeaves
  pub places : AddressMap
  pub objective_at : Address
  pub reads : ℕ

-- the fresh bridging of the model after stands, with few turns and reads
pub record IsPushed (old : Parts) (model : ModelValue) (undos : List Undo) (after : ModelValue)
    (start : IsStart old.bridges old.solver old.places old.objective_at model undos after)
    (changed : ℕ) (new : Parts) : Type 0 where
  pub holds :
      HoldsBridging (setting_of new.bridges) new.bridges.states new.solver.leaves new.places
      new.objective_at after
  pub setting : setting_of new.bridges ≡ setting_of old.bridges
  pub touched : ℕ
  pub touched_are : IsCountOf (IsTouched start.held.bridging holds.bridging) touched
  pub inner :
      (n : ℕ) × IsInner start.held.bridging holds.bridging n
      × (turns_of new.bridges.states ≤ turns_of old.bridges.states + 2 * n)
  pub reads : new.reads ≤ old.reads + (entries_of undos + touched)
  pub counted :
      IsChangeCount (read_through old.places old.solver.leaves old.objective_at)
      (read_through new.places new.solver.leaves new.objective_at) changed
  pub rises : old.solver.leaves.calls ≤ new.solver.leaves.calls
  pub calls : new.solver.leaves.calls ≤ old.solver.leaves.calls + changed
  pub variables : KeepsIndices old.places.vars.indices new.places.vars.indices
  pub rows : KeepsIndices old.places.rows.indices new.places.rows.indices

-- nothing but turns was changed
pub record IsTurned (old new : Parts) : Type 0 where
  pub means : means_of new.bridges ≡ means_of old.bridges
  pub solver : new.solver ≡ old.solver
  pub places : new.places ≡ old.places
  pub objective_at : new.objective_at ≡ old.objective_at

abbrev pub IsPushedTo : (old : Parts) (model : ModelValue) (undos : List Undo)
    (after : ModelValue)
    → IsStart old.bridges old.solver old.places old.objective_at model undos after
    → Result ℕ PushFault → Parts → Type 0
IsPushedTo old model undos after start (Ok n) new = IsPushed old model undos after start n new
IsPushedTo old model undos after start (Err (Unsupported kind)) new =
    IsUnsupported (setting_of old.bridges) after kind × IsTurned old new
IsPushedTo old model undos after start (Err (Overflow at)) new =
    ((bridging : FreshBridging (setting_of old.bridges) after) × (unfit_at bridging ≡ Some at))
    × IsTurned old new
IsPushedTo old model undos after start (Err Memory) new =
    setting_of new.bridges ≡ setting_of old.bridges

abbrev pub parts_of : Bridges → StoredLeaves → AddressMap → Address → ℕ → Parts
parts_of bridges solver places objective_at reads = record {
  bridges = bridges;
  solver = solver;
  places = places;
  objective_at = objective_at;
  reads = reads;
}
