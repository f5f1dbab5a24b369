-- One variable more, changed or less: rows and the objective are read as they were.
use Rattle.std.specs.Prelude.{◌≡◌, ℕ, IfSome, Some}
use Rattle.std.specs.FinMap as finite
use Rattle.std.proofs.Common.{sym, subst}
use Rattle.address_map.specs.AddressMap.{AddressMap}
use Rattle.address_map.specs.Places.{AreIndicesOneToOne, Indices}
use Rattle.leaf_update.specs.Named.{RowNames}
use Rattle.leaf_model.specs.ReadThrough.{by_address, read_objective, read_row}
use Rattle.solver_store.specs.SolverModel.{Leaves}
use Rattle.solver_store.specs.declared.leaf.LeafObjective.{LeafObjective}
use Rattle.solver_store.specs.declared.leaf.LeafRow.{LeafRow}
use Rattle.leaf_update.proofs.Shared.{SharesObjective, SharesRow, row_named, same_objective, same_row}
use Rattle.leaf_update.proofs.Through.{through_alike}

-- other indices of variables, and other leaf variables, in which all that rows and the objective
-- name stays
pub record KeepsNamed (old new : Indices) (leaves : Leaves) : Type 0 where
  pub rows : (i : ℕ) (r : LeafRow) → finite.get leaves.rows i ≡ Some r → SharesRow old new r
  pub objective : IfSome leaves.objective (SharesObjective old new)

module _ (map : AddressMap) (leaves : Leaves) (vars : Indices)
    (one : AreIndicesOneToOne map.vars.indices) (other : AreIndicesOneToOne vars)
    (keeps : KeepsNamed map.vars.indices vars leaves) where
  pub rows_kept :
      by_address (read_row vars) map.rows.indices leaves.rows
      ≡ by_address (read_row map.vars.indices) map.rows.indices leaves.rows
  rows_kept =
      through_alike map.rows.indices leaves.rows (read_row vars) (read_row map.vars.indices)
      (λ i r e. sym (same_row map.vars.indices vars one other r (keeps.rows i r e)))

  pub names_kept : (i : ℕ) (r : LeafRow) → finite.get leaves.rows i ≡ Some r → RowNames vars r
  names_kept i r e = row_named map.vars.indices vars r (keeps.rows i r e)

  pub objective_kept : (o : LeafObjective) → leaves.objective ≡ Some o
      → read_objective vars o ≡ read_objective map.vars.indices o
  objective_kept o e =
      sym (same_objective map.vars.indices vars one other o
      (subst (λ x. IfSome x (SharesObjective map.vars.indices vars)) e keeps.objective))
