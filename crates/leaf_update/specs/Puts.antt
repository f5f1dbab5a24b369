-- Entries put into a map in turn, and leaves as such entries.
use Rattle.std.specs.Prelude.{List, [], ◌∷◌, Option, map}
use Rattle.std.specs.FinMap as finite
use Rattle.std.specs.FinMap.{FinMap}
use Rattle.std.specs.Option.{option_map_or}
use Rattle.address_map.specs.AddressMap.{AddressMap}
use Rattle.address_map.specs.Places.{Indices}
use Rattle.aff_core.specs.Address.{Address, address_cmp}
use Rattle.item_core.specs.declared.item.Body.{Body}
use Rattle.leaf_model.specs.ReadThrough.{by_address, read_objective, read_row}
use Rattle.solver_store.specs.SolverModel.{Leaves}
use Rattle.solver_store.specs.declared.leaf.LeafObjective.{LeafObjective}
use Rattle.solver_store.specs.declared.leaf.LeafRow.{LeafRow}
use Rattle.solver_store.specs.declared.leaf.LeafVar.{LeafVar}

module _ {X : Type 0} where
  abbrev pub put_all : FinMap address_cmp X → List (Address × X) → FinMap address_cmp X
  put_all m [] = m
  put_all m (e ∷ es) = put_all (finite.insert m e.0 e.1) es

-- ---- the leaves of a solver's model by their addresses

abbrev pub variables_in : AddressMap → Leaves → FinMap address_cmp LeafVar
variables_in m leaves = by_address (λ var. var) m.vars.indices leaves.vars

abbrev pub rows_in : AddressMap → Leaves → FinMap address_cmp Body
rows_in m leaves = by_address (read_row m.vars.indices) m.rows.indices leaves.rows

-- the objective, at most one
abbrev pub objectives_in : AddressMap → Leaves → List Body
objectives_in m leaves =
    option_map_or (λ o. read_objective m.vars.indices o ∷ []) leaves.objective []

-- ---- what an item has of leaves

abbrev pub variables_as : LeafVar → List Address → List (Address × LeafVar)
variables_as var vars = map (λ v. (v, var)) vars

abbrev pub row_at : Indices → Address → Option LeafRow → List (Address × Body)
row_at indices at row = option_map_or (λ r. (at, read_row indices r) ∷ []) row []

abbrev pub objective_at : Indices → Address → Option LeafObjective → List (Address × Body)
objective_at indices at objective =
    option_map_or (λ o. (at, read_objective indices o) ∷ []) objective []
