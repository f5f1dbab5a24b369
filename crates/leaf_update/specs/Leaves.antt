-- Lists of leaves that a solver's model can have.
use Rattle.std.specs.Prelude.{◌≤◌, List, All, flat_map, length}
use Rattle.aff_core.specs.Address.{address_cmp}
use Rattle.aff_core.specs.Rising.{HasDistinctKeys}
use Rattle.equality_form.specs.Native.{NamesVariables}
use Rattle.fresh_bridging.specs.Leaves.{leaf_model_of, leaf_objectives, leaf_rows, leaf_variables}
use Rattle.item_core.specs.Item.{functions_of}
use Rattle.item_core.specs.declared.item.Body.{Body}
use Rattle.item_core.specs.declared.item.Body.TheVariants.{PlainVec}
use Rattle.item_core.specs.declared.item.Item.{Item}
use Rattle.leaf_model.specs.LeafModel.{LeafModel}

-- a vector of plain variables is no native row
abbrev pub HasNativeForm : Body → Type 0
HasNativeForm (PlainVec vars set) = ⊥
HasNativeForm _ = Unit {0}

-- the item names only leaf variables of the model
abbrev pub NamesLeaves : LeafModel → Item → Type 0
NamesLeaves model leaf = All (NamesVariables model) (functions_of leaf.body)

-- leaf variables are distinct, and rows are; there is at most one objective; and all that rows and
-- objective name are leaf variables
pub record AreLeaves (leaves : List Item) : Type 0 where
  pub forms : All (λ leaf. HasNativeForm leaf.body) leaves
  pub variables : HasDistinctKeys address_cmp (flat_map leaf_variables leaves)
  pub rows : HasDistinctKeys address_cmp (flat_map leaf_rows leaves)
  pub objective : length (flat_map leaf_objectives leaves) ≤ 1
  pub names : All (NamesLeaves (leaf_model_of leaves)) leaves
