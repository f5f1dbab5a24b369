-- The leaves of a solver's model at other addresses than some leaves are put at: those that go where
-- these are to be the whole model.
use Rattle.std.specs.Prelude.{Bool, not, List, [], ◌∷◌, filter, flat_map}
use Rattle.std.specs.List.{list_any}
use Rattle.std.specs.Option.{option_map_or}
use Rattle.address_map.specs.AddressMap.{AddressMap}
use Rattle.address_map.specs.Places.{addresses}
use Rattle.aff_core.specs.Address.{Address, address_eq}
use Rattle.fresh_bridging.specs.Leaves.{leaf_objectives, leaf_rows, leaf_variables}
use Rattle.item_core.specs.declared.item.Item.{Item}
use Rattle.leaf_update.specs.Splice.{Gone, keys_of}
use Rattle.solver_store.specs.SolverModel.{Leaves}

-- the address is among these
abbrev pub among : List Address → Address → Bool
among keys at = list_any (address_eq at) keys

-- all that are not among the keys
abbrev pub others : List Address → List Address → List Address
others keys all = filter (λ at. not (among keys at)) all

-- the address of the objective, if there is one
abbrev pub objective_addresses : Leaves → Address → List Address
objective_addresses leaves at = option_map_or (λ o. at ∷ []) leaves.objective []

-- of old leaves all those at which none of these leaves is put
abbrev pub others_among : Gone → List Item → Gone
others_among had put = record {
  variables = others (keys_of (flat_map leaf_variables put)) had.variables;
  rows = others (keys_of (flat_map leaf_rows put)) had.rows;
  objective = others (keys_of (flat_map leaf_objectives put)) had.objective;
}

abbrev pub others_in : AddressMap → Leaves → Address → List Item → Gone
others_in map leaves at put = record {
  variables = others (keys_of (flat_map leaf_variables put)) (addresses map.vars.indices);
  rows = others (keys_of (flat_map leaf_rows put)) (addresses map.rows.indices);
  objective = others (keys_of (flat_map leaf_objectives put)) (objective_addresses leaves at);
}
