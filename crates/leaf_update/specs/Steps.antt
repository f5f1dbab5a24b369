-- One leaf of a solver's model set or removed, with what its map of addresses then has. Everything
-- else is read through the map as before.
--     Extends             each address has its index still
--     CallsAtMost         the solver's model was called n times at most
--     CountsMore CountsFrom      at how many more addresses a map differs from what it was
--     rest_of             what a map has beside leaves
--     SetsVariable DropsVariable NobodyNames      a leaf variable
--     SetsRow DropsRow    a leaf row
use Rattle.std.specs.Prelude.{◌≡◌, ◌+◌, ◌≤◌, ℕ, IfSome, Some}
use Rattle.std.specs.FinMap as finite
use Rattle.std.specs.FinMap.{FinMap}
use Rattle.address_map.specs.AddressMap.{AddressMap}
use Rattle.address_map.specs.Noted.{AddressSet, Noted}
use Rattle.address_map.specs.Places.{Indices}
use Rattle.aff_core.specs.Address.{Address, address_cmp}
use Rattle.aff_core.specs.Function.{Function}
use Rattle.bridge_face.specs.Law.{Miss}
use Rattle.item_core.specs.Item.{functions_of}
use Rattle.item_core.specs.declared.item.Body.{Body}
use Rattle.leaf_update.specs.Named.{NamesEach}
use Rattle.leaf_update.specs.Puts.{objectives_in, rows_in, variables_in}
use Rattle.leaf_model.specs.LeafModel.{Differ, IsCountOf}
use Rattle.leaf_model.specs.ReadThrough.{read_objective, read_row}
use Rattle.solver_store.specs.SolverModel.{Leaves}
use Rattle.solver_store.specs.declared.leaf.LeafRow.{LeafRow}
use Rattle.solver_store.specs.declared.leaf.LeafVar.{LeafVar}

-- every address of the first has its index in the second
abbrev pub Extends : Indices → Indices → Type 0
Extends old new = (at : Address) (i : ℕ) → finite.get old at ≡ Some i → finite.get new at ≡ Some i

-- n calls at most, and none is taken back
pub record CallsAtMost (leaves after : Leaves) (n : ℕ) : Type 0 where
  pub rises : leaves.calls ≤ after.calls
  pub bound : after.calls ≤ leaves.calls + n

-- c addresses more differ from the start
abbrev pub CountsMore : {X : Type 0} → FinMap address_cmp X → FinMap address_cmp X
    → FinMap address_cmp X → ℕ → Type 0
CountsMore start m n c = (k : ℕ) → IsCountOf (Differ start m) k → IsCountOf (Differ start n) (k + c)

-- whatever the start, if the address was there as it is
abbrev pub CountsFrom : {X : Type 0} → FinMap address_cmp X → FinMap address_cmp X → Address → ℕ
    → Type 0
CountsFrom {X} m n at c =
    (start : FinMap address_cmp X) → finite.get m at ≡ finite.get start at → CountsMore start m n c

-- what a map has beside leaves: expressions, notes and marks
abbrev pub rest_of : AddressMap → FinMap address_cmp Function × (Noted × AddressSet)
rest_of m = (m.exprs, (m.noted, m.kept))

-- ---- a leaf variable

-- what stays as a leaf variable is set or removed
pub record StaysBeside (old : AddressMap) (leaves : Leaves) (new : AddressMap)
    (after : Leaves) : Type 0 where
  pub named : NamesEach new after
  pub rows : rows_in new after ≡ rows_in old leaves
  pub objective : objectives_in new after ≡ objectives_in old leaves
  pub row_places : new.rows ≡ old.rows
  pub rest : rest_of new ≡ rest_of old

-- it stands at the address, by n calls
pub record SetsVariable (old : AddressMap) (leaves : Leaves) (at : Address) (var : LeafVar) (n : ℕ)
    (new : AddressMap) (after : Leaves) : Type 0 where
  pub beside : StaysBeside old leaves new after
  pub set : variables_in new after ≡ finite.insert (variables_in old leaves) at var
  pub extends : Extends old.vars.indices new.vars.indices
  pub calls : CallsAtMost leaves after n
  pub counts : CountsFrom (variables_in old leaves) (variables_in new after) at n

pub record DropsVariable (old : AddressMap) (leaves : Leaves) (at : Address) (n : ℕ)
    (new : AddressMap) (after : Leaves) : Type 0 where
  pub beside : StaysBeside old leaves new after
  pub dropped : variables_in new after ≡ finite.remove (variables_in old leaves) at
  pub extends : Extends new.vars.indices old.vars.indices
  pub calls : CallsAtMost leaves after n
  pub counts : CountsFrom (variables_in old leaves) (variables_in new after) at n

-- no row and no objective names the variable
pub record NobodyNames (old : AddressMap) (leaves : Leaves) (at : Address) : Type 0 where
  pub rows :
      (i : ℕ) (r : LeafRow) → finite.get leaves.rows i ≡ Some r
      → Miss (functions_of (read_row old.vars.indices r)) at
  pub objective :
      IfSome leaves.objective (λ o. Miss (functions_of (read_objective old.vars.indices o)) at)

-- ---- a leaf row

-- what stays as a leaf row is set or removed
pub record StaysBesideRows (old : AddressMap) (leaves : Leaves) (new : AddressMap)
    (after : Leaves) : Type 0 where
  pub named : NamesEach new after
  pub var_places : new.vars ≡ old.vars
  pub vars : after.vars ≡ leaves.vars
  pub objective : after.objective ≡ leaves.objective
  pub rest : rest_of new ≡ rest_of old

pub record SetsRow (old : AddressMap) (leaves : Leaves) (at : Address) (body : Body) (n : ℕ)
    (new : AddressMap) (after : Leaves) : Type 0 where
  pub beside : StaysBesideRows old leaves new after
  pub set : rows_in new after ≡ finite.insert (rows_in old leaves) at body
  pub extends : Extends old.rows.indices new.rows.indices
  pub calls : CallsAtMost leaves after n
  pub counts : CountsFrom (rows_in old leaves) (rows_in new after) at n

pub record DropsRow (old : AddressMap) (leaves : Leaves) (at : Address) (n : ℕ)
    (new : AddressMap) (after : Leaves) : Type 0 where
  pub beside : StaysBesideRows old leaves new after
  pub dropped : rows_in new after ≡ finite.remove (rows_in old leaves) at
  pub extends : Extends new.rows.indices old.rows.indices
  pub calls : CallsAtMost leaves after n
  pub counts : CountsFrom (rows_in old leaves) (rows_in new after) at n
