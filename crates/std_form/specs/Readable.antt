-- When a map and a solver's model belong together.
use Rattle.std.specs.Prelude.{◌≡◌, ℕ, All, IsSome, Some}
use Rattle.std.specs.FinMap as finite
use Rattle.std.specs.FinMap.{FinMap}
use Rattle.std.specs.Ordering.{nat_cmp}
use Rattle.address_map.specs.AddressMap.{AddressMap}
use Rattle.address_map.specs.Places.{Indices}
use Rattle.aff_core.specs.Address.{Address}
use Rattle.aff_core.specs.Function.{terms_of}
use Rattle.equality_form.specs.Native.{IsNativeRow}
use Rattle.leaf_model.specs.ReadThrough.{read_row}
use Rattle.solver_store.specs.SolverFunction.{SolverFunction}
use Rattle.solver_store.specs.SolverModel.{Leaves}
use Rattle.solver_store.specs.declared.leaf.LeafRow.{LeafRow}
use Rattle.std_form.specs.Indexed.{equations_in, objective_in}

-- each address leads to an index in use, and to each of these one leads
pub record NamesExactly {X : Type 0} (indices : Indices) (leaves : FinMap nat_cmp X) : Type 0 where
  pub used : (at : Address) (i : ℕ) → finite.get indices at ≡ Some i → IsSome (finite.get leaves i)
  pub named :
      (i : ℕ) → IsSome (finite.get leaves i) → (at : Address) × (finite.get indices at ≡ Some i)

module _ (map : AddressMap) (leaves : Leaves) where
  -- the function names only variables in use
  abbrev pub NamesUsed : SolverFunction → Type 0
  NamesUsed f = All (λ t. IsSome (finite.get leaves.vars t.0)) (terms_of f)

  pub record IsReadableRow (row : LeafRow) : Type 0 where
    pub native : IsNativeRow (read_row map.vars.indices row)
    pub names : All (λ e. NamesUsed e.function) (equations_in row)

  -- the map names exactly the indices in use; each row is of a native kind and has its set's
  -- dimension; and rows and objective name only variables in use
  pub record IsReadable : Type 0 where
    pub vars : NamesExactly map.vars.indices leaves.vars
    pub rows : NamesExactly map.rows.indices leaves.rows
    pub each_row :
        (i : ℕ) (row : LeafRow) → finite.get leaves.rows i ≡ Some row → IsReadableRow row
    pub objective : NamesUsed (objective_in leaves.objective)
