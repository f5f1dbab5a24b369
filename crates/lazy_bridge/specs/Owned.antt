-- What contracts see of `Lazy`, the lazy bridging of a user's model: the bridges (the table, the
-- choices by it, and the state of each bridge), the solver's model, the map of addresses, and the
-- address of the solver's objective.
--
-- It names no family: an edge may be used exactly where its family is on in the table and among the
-- bridges.
--
--     HoldsNothing lazy          no leaf, no node, no expression, nothing noted, nothing marked
--     IsBridgingOf lazy model    it holds the fresh bridging of the model: the map names each leaf of
--                                the solver's model, which read through the map is the bridging's
--                                leaves; each bridge keeps the nodes of its family; the map has the
--                                expression of each of the user's variables, and has noted which
--                                rows, and whether the objective, name which variables, and which of
--                                these are kept
use Rattle.std.specs.Prelude.{◌≡◌, true, All, refl}
use Rattle.std.specs.Coded.{Coded, code_by, coded×}
use Rattle.std.specs.FinMap as finite
use Rattle.address_map.specs.AddressMap.{AddressMap, address_map_code}
use Rattle.aff_core.specs.Address.{Address, address_code}
use Rattle.bridge_set.specs.Bridges.{Bridges, bridges_code, setting_of}
use Rattle.bridge_set.specs.Nodes.{nodes_by}
use Rattle.bridge_face.specs.BridgeState.{BridgeState}
use Rattle.fresh_bridging.specs.FreshBridging.{FreshBridging, is_made, leaves_of}
use Rattle.fresh_bridging.specs.TheRules.{Setting}
use Rattle.leaf_update.specs.Named.{NamesEach}
use Rattle.lazy_bridge.specs.Mentioned.{IsMentionIndex, marks_of}
use Rattle.leaf_model.specs.LeafModel.{LeafModel}
use Rattle.leaf_model.specs.ReadThrough.{read_through}
use Rattle.model_bridging.specs.Expressions.{expressions_by}
use Rattle.model_bridging.specs.Planned.{kept_variables}
use Rattle.solver_store.specs.SolverModel.{StoredLeaves, no_leaves, stored_code}
use Rattle.user_model.specs.Model.{ModelValue}
use Rattle.user_model.specs.Valid.{IsValid}

pub record Owned : Type 0 where
  pub bridges : Bridges
  pub solver : StoredLeaves
  pub map : AddressMap
  pub objective_at : Address

abbrev pub owned_code : Coded Owned
owned_code =
    code_by (Bridges × (StoredLeaves × (AddressMap × Address)))
    (coded× bridges_code (coded× stored_code (coded× address_map_code address_code)))
    (λ l. (l.bridges, (l.solver, (l.map, l.objective_at))))
    (λ p. record { bridges = p.0; solver = p.1.0; map = p.1.1.0; objective_at = p.1.1.1 })
    (λ _. refl)

-- the table, and the families of the bridges
abbrev pub setting_in : Owned → Setting
setting_in lazy = setting_of lazy.bridges

-- the solver's model, read through the map
abbrev pub leaf_model_in : Owned → LeafModel
leaf_model_in lazy = read_through lazy.map lazy.solver.leaves lazy.objective_at

-- the same table and families, and the same leaves under the same indices
pub record HasLeavesOf (old new : Owned) : Type 0 where
  pub setting : setting_in new ≡ setting_in old
  pub solver : new.solver ≡ old.solver
  pub vars : new.map.vars ≡ old.map.vars
  pub rows : new.map.rows ≡ old.map.rows
  pub objective_at : new.objective_at ≡ old.objective_at

-- ---- what it holds

pub record HoldsNothing (lazy : Owned) : Type 0 where
  pub leaves : lazy.solver.leaves ≡ no_leaves lazy.solver.leaves.calls
  pub vars : lazy.map.vars.indices ≡ finite.empty
  pub rows : lazy.map.rows.indices ≡ finite.empty
  pub exprs : lazy.map.exprs ≡ finite.empty
  pub noted : lazy.map.noted ≡ finite.empty
  pub marks : lazy.map.kept ≡ finite.empty
  pub kept : All (λ (bridge : BridgeState). bridge.kept ≡ finite.empty) lazy.bridges.states

-- the fresh bridging of the model, which is valid, and in which each number fits
pub record IsBridgingOf (lazy : Owned) (model : ModelValue) : Type 0 where
  pub valid : IsValid model
  pub bridging : FreshBridging (setting_in lazy) model
  pub made : is_made bridging ≡ true
  pub leaves : leaf_model_in lazy ≡ leaves_of bridging
  pub named : NamesEach lazy.map lazy.solver.leaves
  pub kept : All (λ (bridge : BridgeState). bridge.kept ≡ nodes_by bridging bridge.family) lazy.bridges.states
  pub exprs : lazy.map.exprs ≡ expressions_by bridging
  pub noted : IsMentionIndex model lazy.map.noted
  pub marks : lazy.map.kept ≡ marks_of (kept_variables bridging)
