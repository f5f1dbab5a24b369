-- Another table for a bridged model, as one function hands it to the next.
--     HoldsByTable      it stands in bridges that choose by another table
--     IsTableStart      the fresh bridging of a model by other choices stands
--     IsRetabled        the one by the bridges' choices stands, with few turns
--     IsRetabledTo      what is answered, and what is left
--     IsRetabledFrom    so of a lazy bridging
use Rattle.std.specs.Prelude.{◌≡◌, ◌≤◌, ◌+◌, ◌*◌, ℕ, true, List, Some, Result, Ok, Err}
use Rattle.address_map.specs.AddressMap.{AddressMap}
use Rattle.aff_core.specs.Address.{Address}
use Rattle.bridge_graph.specs.Hypergraph.{IsCostly}
use Rattle.bridge_graph.specs.declared.Choice.{Choice}
use Rattle.bridge_plan.specs.Means.{AreSound}
use Rattle.bridge_set.specs.Bridges.{Bridges, choice_in, families_of, means_of, occur_once, setting_by, setting_of}
use Rattle.bridge_set.specs.Turns.{turns_of}
use Rattle.fresh_bridging.specs.CanLaws.{AreLawful}
use Rattle.fresh_bridging.specs.FreshBridging.{FreshBridging, IsUnsupported, unfit_at}
use Rattle.fresh_bridging.specs.TheRules.{AreChoices, graph_of}
use Rattle.fresh_bridging.specs.Touched.{IsInner}
use Rattle.item_core.specs.Kind.{kind_number}
use Rattle.item_core.specs.declared.kind.Kind.{Kind}
use Rattle.item_core.specs.declared.table.Table.{Table}
use Rattle.lazy_bridge.specs.Owned.{IsBridgingOf, Owned}
use Rattle.leaf_model.specs.LeafModel.{IsChangeCount}
use Rattle.leaf_model.specs.ReadThrough.{read_through}
use Rattle.leaf_update.specs.Splice.{KeepsIndices}
use Rattle.model_bridging.specs.declared.fault.PushFault.{PushFault}
use Rattle.model_bridging.specs.declared.fault.PushFault.TheVariants.{Unsupported, Overflow, Memory}
use Rattle.push_laws.specs.Edits.{HoldsBridging}
use Rattle.solver_store.specs.SolverModel.{Leaves, StoredLeaves}
use Rattle.tree_laws.specs.LeafLaws.{SupportsNativeKinds}
use Rattle.user_model.specs.Model.{ModelValue}

-- bridges that choose by another table than the one by which a fresh bridging was made that they hold
pub record HoldsByTable (bridges : Bridges) (table : Table) (choice : ℕ → Choice) (solver : Leaves)
    (places : AddressMap) (objective_at : Address) (model : ModelValue) : Type 0 where
  pub sound : AreSound (means_of bridges)
  pub native : SupportsNativeKinds (setting_of bridges)
  pub once : occur_once (families_of bridges.states) ≡ true
  -- by the table before
  pub costly : IsCostly (graph_of (setting_by table bridges.states))
  pub lawful : AreLawful (setting_by table bridges.states)
  pub chosen : AreChoices (setting_by table bridges.states) choice
  pub native_before : SupportsNativeKinds (setting_by table bridges.states)
  pub held :
      HoldsBridging (setting_by table bridges.states) bridges.states solver places objective_at model

-- the fresh bridging of a model stands, by a table and these choices
pub record IsTableStart (bridges : Bridges) (table : Table) (choices : List Choice) (solver : StoredLeaves)
    (places : AddressMap) (objective_at : Address) (model : ModelValue) : Type 0 where
  pub choice : ℕ → Choice
  pub holds : HoldsByTable bridges table choice solver.leaves places objective_at model
  pub told :
      (kind : Kind) → choice_in choices (kind_number kind) ≡ choice (kind_number kind)

module _ (bridges : Bridges) (table : Table) (choices : List Choice) (solver : StoredLeaves)
    (places : AddressMap) (objective_at : Address) (model : ModelValue)
    (start : IsTableStart bridges table choices solver places objective_at model) where
  -- the fresh bridging by the bridges' choices stands
  pub record IsRetabled (changed : ℕ) (bridges_after : Bridges) (solver_after : StoredLeaves)
      (places_after : AddressMap) (objective_after : Address) : Type 0 where
    pub holds :
        HoldsBridging (setting_of bridges_after) bridges_after.states solver_after.leaves places_after
        objective_after model
    pub setting : setting_of bridges_after ≡ setting_of bridges
    pub inner :
        (n : ℕ) × IsInner start.holds.held.bridging holds.bridging n
        × (turns_of bridges_after.states ≤ turns_of bridges.states + 2 * n)
    pub counted :
        IsChangeCount (read_through places solver.leaves objective_at)
        (read_through places_after solver_after.leaves objective_after) changed
    pub rises : solver.leaves.calls ≤ solver_after.leaves.calls
    pub calls : solver_after.leaves.calls ≤ solver.leaves.calls + changed
    pub variables : KeepsIndices places.vars.indices places_after.vars.indices
    pub rows : KeepsIndices places.rows.indices places_after.rows.indices

  -- nothing but turns was changed
  pub record IsTurnedTo (bridges_after : Bridges) (solver_after : StoredLeaves) (places_after : AddressMap)
      (objective_after : Address) : Type 0 where
    pub means : means_of bridges_after ≡ means_of bridges
    pub solver_is : solver_after ≡ solver
    pub places_are : places_after ≡ places
    pub objective_is : objective_after ≡ objective_at

  abbrev pub IsRetabledTo : Result ℕ PushFault → Bridges → StoredLeaves → AddressMap → Address
      → Type 0
  IsRetabledTo (Ok n) b s p o = IsRetabled n b s p o
  IsRetabledTo (Err (Unsupported kind)) b s p o =
      IsUnsupported (setting_of bridges) model kind × IsTurnedTo b s p o
  IsRetabledTo (Err (Overflow at)) b s p o =
      ((bridging : FreshBridging (setting_of bridges) model) × (unfit_at bridging ≡ Some at))
      × IsTurnedTo b s p o
  IsRetabledTo (Err Memory) b s p o = setting_of b ≡ setting_of bridges

-- in a lazy bridging, with few turns
pub record IsRetabledFrom (old : Owned) (table : Table) (choices : List Choice) (model : ModelValue)
    (start : IsTableStart old.bridges table choices old.solver old.map old.objective_at model)
    (new : Owned) : Type 0 where
  pub stands : IsBridgingOf new model
  pub inner : ℕ
  pub inner_is : IsInner start.holds.held.bridging stands.bridging inner
  pub turns : turns_of new.bridges.states ≤ turns_of old.bridges.states + 2 * inner
