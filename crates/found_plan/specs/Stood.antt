-- The leaves that items had, as a map of addresses and the solver's model have them.
use Rattle.std.specs.Prelude.{Bool, ◌++◌, cond, filter, flat_map, is_some, List, [], map}
use Rattle.std.specs.FinMap as finite
use Rattle.address_map.specs.AddressMap.{AddressMap}
use Rattle.address_map.specs.Places.{addresses}
use Rattle.aff_core.specs.Address.{Address}
use Rattle.item_leaves.specs.ItemLeaves.{item_of, those_of}
use Rattle.leaf_update.specs.Others.{among, objective_addresses}
use Rattle.leaf_update.specs.Splice.{Gone}
use Rattle.solver_store.specs.SolverModel.{Leaves}
use Rattle.user_model.specs.Model.{variable_address}
use Rattle.user_model.specs.declared.group.Group.{Group}
use Rattle.user_model.specs.declared.group.GroupVar.{GroupVar}

abbrev pub has_leaf : AddressMap → Address → Bool
has_leaf places v = is_some (finite.get places.vars.indices v)

-- of some variables those that are leaves
abbrev pub own_leaves : AddressMap → List GroupVar → List Address
own_leaves places vars = filter (has_leaf places) (map (λ v. variable_address v.number) vars)

-- of a native group its own variables, and else those at and below an item
abbrev pub old_variables : AddressMap → List Group → List Address → List Address
old_variables places groups items =
    flat_map (λ (g : Group). own_leaves places g.vars) groups
    ++ flat_map (λ at. those_of at (addresses places.vars.indices)) items

abbrev pub old_leaves : AddressMap → Leaves → Address → List Group → List Address → Gone
old_leaves places leaves objective_at groups items = record {
  variables = old_variables places groups items;
  rows = flat_map (λ at. those_of at (addresses places.rows.indices)) items;
  objective =
      cond (among items (item_of objective_at)) (objective_addresses leaves objective_at) [];
}
