-- A solver's model by the addresses of its leaves: variables, and rows and an objective as the
-- bodies of native items.
use Rattle.std.specs.Prelude.{◌≡◌, ◌≢◌, ◌↔◌, ◌+◌, ℕ, List, length, Contains}
use Rattle.std.specs.FinMap as finite
use Rattle.std.specs.FinMap.{FinMap}
use Rattle.std.specs.List.{IsDistinct}
use Rattle.aff_core.specs.Address.{Address, address_cmp, address_eq}
use Rattle.item_core.specs.declared.item.Body.{Body}
use Rattle.solver_store.specs.declared.leaf.LeafVar.{LeafVar}

-- there is at most one objective
pub record LeafModel : Type 0 where
  pub variables : FinMap address_cmp LeafVar
  pub rows : FinMap address_cmp Body
  pub objective : FinMap address_cmp Body

abbrev pub no_leaves : LeafModel
no_leaves = record {
  variables = finite.empty;
  rows = finite.empty;
  objective = finite.empty;
}

-- ---- at how many addresses two models differ

-- this number of addresses passes
pub record IsCountOf (P : Address → Type 0) (n : ℕ) : Type 0 where
  pub addresses : List Address
  pub distinct : IsDistinct address_eq addresses
  pub each : (at : Address) → Contains addresses at ↔ P at
  pub count : length addresses ≡ n

abbrev pub Differ : {X : Type 0} → FinMap address_cmp X → FinMap address_cmp X → Address → Type 0
Differ m n at = finite.get m at ≢ finite.get n at

-- the number of addresses at which the variables differ, the rows, and the objectives: an address
-- that was a variable's and becomes a row's counts twice
pub record IsChangeCount (before after : LeafModel) (n : ℕ) : Type 0 where
  pub variables : ℕ
  pub rows : ℕ
  pub objective : ℕ
  pub variables_are : IsCountOf (Differ before.variables after.variables) variables
  pub rows_are : IsCountOf (Differ before.rows after.rows) rows
  pub objective_is : IsCountOf (Differ before.objective after.objective) objective
  pub all : n ≡ variables + rows + objective
