-- A solver's model, each index of it replaced by the address that has it.
use Rattle.std.specs.Prelude.{ℕ, ◌==◌, List, [], ◌∷◌, find, flat_map, map, unwrap_or}
use Rattle.std.specs.FinMap as finite
use Rattle.std.specs.FinMap.{FinMap}
use Rattle.std.specs.Option.{option_map, option_map_or}
use Rattle.std.specs.Ordering.{nat_cmp}
use Rattle.address_map.specs.AddressMap.{AddressMap}
use Rattle.address_map.specs.Places.{Indices}
use Rattle.aff_core.specs.Address.{Address, address_cmp, root_address}
use Rattle.aff_core.specs.Function.{Function, gathered, terms_of}
use Rattle.aff_core.specs.declared.root.Root.TheVariants.{Variable}
use Rattle.item_core.specs.declared.item.Body.{Body}
use Rattle.item_core.specs.declared.item.Body.TheVariants.{Plain, Affine, AffineVec, PlainObj, AffineObj}
use Rattle.leaf_model.specs.LeafModel.{LeafModel}
use Rattle.ratio_core.specs.Rational.{Rational}
use Rattle.solver_store.specs.SolverFunction.{SolverFunction}
use Rattle.solver_store.specs.SolverModel.{Leaves}
use Rattle.solver_store.specs.declared.leaf.LeafObjective.{LeafObjective}
use Rattle.solver_store.specs.declared.leaf.LeafObjective.TheVariants as objective
use Rattle.solver_store.specs.declared.leaf.LeafRow.{LeafRow}
use Rattle.solver_store.specs.declared.leaf.LeafRow.TheVariants as row

-- the address that has the index, which some address is to have
abbrev pub address_in : Indices → ℕ → Address
address_in indices i =
    unwrap_or (option_map (λ e. e.0) (find (λ e. e.1 == i) (finite.entries indices)))
    (root_address Variable i)

-- terms and functions of addresses in place of their indices
abbrev pub named_terms : Indices → List (ℕ × Rational) → List (Address × Rational)
named_terms vars ts = map (λ t. (address_in vars t.0, t.1)) ts

abbrev pub named : Indices → SolverFunction → Function
named vars f = gathered (named_terms vars (terms_of f)) f.constant

abbrev pub read_row : Indices → LeafRow → Body
read_row vars (row.Plain var set) = Plain (address_in vars var) set
read_row vars (row.Affine func set) = Affine (named vars func) set
read_row vars (row.AffineVec func set) = AffineVec (map (named vars) func) set

abbrev pub read_objective : Indices → LeafObjective → Body
read_objective vars (objective.Plain sense var) = PlainObj sense (address_in vars var)
read_objective vars (objective.Affine sense func) = AffineObj sense (named vars func)

-- what stands at an index, at its address
abbrev pub placed : {X Y : Type 0} → (X → Y) → FinMap nat_cmp X → Address × ℕ → List (Address × Y)
placed read leaves e = option_map_or (λ x. (e.0, read x) ∷ []) (finite.get leaves e.1) []

-- each leaf at the address that has its index
abbrev pub by_address : {X Y : Type 0} → (X → Y) → Indices → FinMap nat_cmp X → FinMap address_cmp Y
by_address read indices leaves =
    finite.from_sorted (flat_map (placed read leaves) (finite.entries indices))

-- the objective has no index: it is read at the address that is given
abbrev pub read_through : AddressMap → Leaves → Address → LeafModel
read_through map leaves at = record {
  variables = by_address (λ var. var) map.vars.indices leaves.vars;
  rows = by_address (read_row map.vars.indices) map.rows.indices leaves.rows;
  objective =
      option_map_or (λ o. finite.insert finite.empty at (read_objective map.vars.indices o))
      leaves.objective finite.empty;
}
