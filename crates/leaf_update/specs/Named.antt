-- When a map names a solver's model: each leaf has one address, and rows and objective name
-- variables that have one.
use Rattle.std.specs.Prelude.{◌≡◌, ℕ, List, All, IfSome, IsSome, Some, map, unwrap_or}
use Rattle.std.specs.FinMap as finite
use Rattle.address_map.specs.AddressMap.{AddressMap}
use Rattle.address_map.specs.Places.{Indices}
use Rattle.aff_core.specs.Address.{Address}
use Rattle.aff_core.specs.Function.{Function, terms_of}
use Rattle.ratio_core.specs.Rational.{Rational}
use Rattle.item_core.specs.Item.{functions_of}
use Rattle.item_core.specs.declared.item.Item.{Item}
use Rattle.solver_store.specs.SolverModel.{Leaves}
use Rattle.solver_store.specs.declared.leaf.LeafObjective.{LeafObjective}
use Rattle.solver_store.specs.declared.leaf.LeafObjective.TheVariants as objective
use Rattle.solver_store.specs.declared.leaf.LeafRow.{LeafRow}
use Rattle.solver_store.specs.declared.leaf.LeafRow.TheVariants as row
use Rattle.std_form.specs.NameLaws.{IsIndexNamed, NamesNamed}
use Rattle.std_form.specs.Readable.{NamesExactly}

module _ (indices : Indices) where
  -- all that the row names has an address
  abbrev pub RowNames : LeafRow → Type 0
  RowNames (row.Plain var set) = IsIndexNamed indices var
  RowNames (row.Affine func set) = NamesNamed indices func
  RowNames (row.AffineVec func set) = All (NamesNamed indices) func

  abbrev pub ObjectiveNames : LeafObjective → Type 0
  ObjectiveNames (objective.Plain sense var) = IsIndexNamed indices var
  ObjectiveNames (objective.Affine sense func) = NamesNamed indices func

  -- all that the function mentions has an index
  abbrev pub IsIndexed : Function → Type 0
  IsIndexed f = All (λ t. IsSome (finite.get indices t.0)) (terms_of f)

  abbrev pub HasIndices : Item → Type 0
  HasIndices leaf = All IsIndexed (functions_of leaf.body)

-- the index of an address that has one
abbrev pub index_at : Indices → Address → ℕ
index_at indices at = unwrap_or (finite.get indices at) 0

-- terms by the indices of their addresses
abbrev pub indexed_terms : Indices → List (Address × Rational) → List (ℕ × Rational)
indexed_terms indices ts = map (λ t. (index_at indices t.0, t.1)) ts

-- the map names exactly the indices in use, and rows and objective name only variables that have
-- an address
pub record NamesEach (places : AddressMap) (leaves : Leaves) : Type 0 where
  pub vars : NamesExactly places.vars.indices leaves.vars
  pub rows : NamesExactly places.rows.indices leaves.rows
  pub each_row :
      (i : ℕ) (row : LeafRow)
      → finite.get leaves.rows i ≡ Some row → RowNames places.vars.indices row
  pub objective : IfSome leaves.objective (ObjectiveNames places.vars.indices)
