-- Leaves of a solver's model changed in place: what stands at some addresses goes, and some leaves
-- stand after that.
--     spliced spliced_model      a map, and a leaf model, without what goes and with what is put
--     IsSplice            the leaves can be put in the place of those that go
--     KeepsIndices        an address on both sides keeps its solver index
--     IsChangedTo IsSplicedInto      what is left, and how little was done for it
use Rattle.std.specs.Prelude.{◌≡◌, ◌≤◌, ◌+◌, ℕ, List, [], ◌∷◌, All, AllPairs, Contains, IsSome, Some, flat_map, length, map}
use Rattle.std.specs.FinMap as finite
use Rattle.std.specs.FinMap.{FinMap}
use Rattle.address_map.specs.AddressMap.{AddressMap}
use Rattle.address_map.specs.Places.{Indices}
use Rattle.aff_core.specs.Address.{Address, address_cmp}
use Rattle.equality_form.specs.Native.{NamesVariables}
use Rattle.fresh_bridging.specs.Leaves.{leaf_objectives, leaf_rows, leaf_variables}
use Rattle.item_core.specs.Item.{functions_of}
use Rattle.item_core.specs.declared.item.Body.{Body}
use Rattle.item_core.specs.declared.item.Item.{Item}
use Rattle.leaf_update.specs.Leaves.{HasNativeForm, NamesLeaves}
use Rattle.leaf_update.specs.Named.{NamesEach}
use Rattle.leaf_update.specs.Puts.{put_all}
use Rattle.leaf_update.specs.declared.change.GoneLeaves.{GoneLeaves}
use Rattle.leaf_model.specs.LeafModel.{IsChangeCount, LeafModel}
use Rattle.leaf_model.specs.ReadThrough.{read_through}
use Rattle.solver_store.specs.SolverModel.{StoredLeaves}

-- ---- what is to stand

module _ {X : Type 0} where
  abbrev pub without_all : FinMap address_cmp X → List Address → FinMap address_cmp X
  without_all m [] = m
  without_all m (at ∷ gone) = without_all (finite.remove m at) gone

  abbrev pub spliced : FinMap address_cmp X → List Address → List (Address × X)
      → FinMap address_cmp X
  spliced m gone es = put_all (without_all m gone) es

-- the addresses of the old leaves that go, at which no leaf stands after
pub record Gone : Type 0 where
  pub variables : List Address
  pub rows : List Address
  pub objective : List Address

abbrev pub gone_in : GoneLeaves → Gone
gone_in gone = record {
  variables = gone.variables.items;
  rows = gone.rows.items;
  objective = gone.objective.items;
}

abbrev pub spliced_model : LeafModel → Gone → List Item → LeafModel
spliced_model model gone leaves = record {
  variables = spliced model.variables gone.variables (flat_map leaf_variables leaves);
  rows = spliced model.rows gone.rows (flat_map leaf_rows leaves);
  objective = spliced model.objective gone.objective (flat_map leaf_objectives leaves);
}

-- ---- what is asked

-- nothing is put where something goes for good: what stands at an entry's address is changed there
abbrev pub ArePutBeside : {X : Type 0} → List Address → List (Address × X) → Type 0
ArePutBeside gone es = All (λ e. ¬ (Contains gone e.0)) es

-- each entry has an address of its own
abbrev pub keys_of : {X : Type 0} → List (Address × X) → List Address
keys_of es = map (λ e. e.0) es

abbrev pub HaveDistinctKeys : {X : Type 0} → List (Address × X) → Type 0
HaveDistinctKeys es = AllPairs (λ a b. ¬ (b ≡ a)) (keys_of es)

-- each row and the objective name variables of the model alone
pub record NamesOwn (model : LeafModel) : Type 0 where
  pub rows :
      (at : Address) (body : Body) → finite.get model.rows at ≡ Some body
      → All (NamesVariables model) (functions_of body)
  pub objective :
      (at : Address) (body : Body) → finite.get model.objective at ≡ Some body
      → All (NamesVariables model) (functions_of body)

-- leaves that can be put in the place of those that go
pub record IsSplice (model : LeafModel) (gone : Gone) (leaves : List Item) : Type 0 where
  pub forms : All (λ leaf. HasNativeForm leaf.body) leaves
  pub leaves_name : All (NamesLeaves (spliced_model model gone leaves)) leaves
  -- each stands once, and beside what goes
  pub variables : HaveDistinctKeys (flat_map leaf_variables leaves)
  pub rows : HaveDistinctKeys (flat_map leaf_rows leaves)
  pub objective : length (flat_map leaf_objectives leaves) ≤ 1
  pub variables_beside : ArePutBeside gone.variables (flat_map leaf_variables leaves)
  pub rows_beside : ArePutBeside gone.rows (flat_map leaf_rows leaves)
  pub objective_beside : ArePutBeside gone.objective (flat_map leaf_objectives leaves)
  -- what goes stands there
  pub gone_variables : All (λ at. IsSome (finite.get model.variables at)) gone.variables
  pub gone_rows : All (λ at. IsSome (finite.get model.rows at)) gone.rows
  pub gone_objective : All (λ at. IsSome (finite.get model.objective at)) gone.objective
  -- once
  pub variables_apart : AllPairs (λ a b. ¬ (b ≡ a)) gone.variables
  pub rows_apart : AllPairs (λ a b. ¬ (b ≡ a)) gone.rows
  -- and in the end all that rows and the objective name stands, those outside as well
  pub names : NamesOwn (spliced_model model gone leaves)
  pub one :
      (one other : Address) (f g : Body)
      → finite.get (spliced_model model gone leaves).objective one ≡ Some f
      → finite.get (spliced_model model gone leaves).objective other ≡ Some g → one ≡ other

-- ---- what is left

-- an address on both sides keeps its index
abbrev pub KeepsIndices : Indices → Indices → Type 0
KeepsIndices old new =
    (at : Address) (i j : ℕ)
    → finite.get old at ≡ Some i → finite.get new at ≡ Some j → i ≡ j

-- the solver's model, read through the map, is the leaf model given
pub record IsChangedTo (model : LeafModel) (solver : StoredLeaves) (map : AddressMap)
    (objective_at : Address) (changed : ℕ) (solver_after : StoredLeaves) (map_after : AddressMap)
    (objective_after : Address) : Type 0 where
  pub through : read_through map_after solver_after.leaves objective_after ≡ model
  pub named : NamesEach map_after solver_after.leaves
  pub exprs : map_after.exprs ≡ map.exprs
  pub vars : KeepsIndices map.vars.indices map_after.vars.indices
  pub rows : KeepsIndices map.rows.indices map_after.rows.indices
  -- the answer is the number of addresses at which the leaves differ, and there are no more calls
  pub counted :
      IsChangeCount (read_through map solver.leaves objective_at)
      (read_through map_after solver_after.leaves objective_after) changed
  pub rises : solver.leaves.calls ≤ solver_after.leaves.calls
  pub calls : solver_after.leaves.calls ≤ solver.leaves.calls + changed

-- the one before without what goes, and with the leaves
abbrev pub IsSplicedInto : StoredLeaves → AddressMap → Address → Gone → List Item → ℕ → StoredLeaves
    → AddressMap → Address → Type 0
IsSplicedInto solver map objective_at gone leaves =
    IsChangedTo (spliced_model (read_through map solver.leaves objective_at) gone leaves)
    solver map objective_at
