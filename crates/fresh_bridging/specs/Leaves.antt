-- What a list of native items is by address: a solver's model.
use Rattle.std.specs.Prelude.{List, [], ◌∷◌, flat_map, map}
use Rattle.std.specs.FinMap as finite
use Rattle.aff_core.specs.Address.{Address}
use Rattle.item_core.specs.declared.item.Body.{Body}
use Rattle.item_core.specs.declared.item.Body.TheVariants.{Group, Free, PlainObj, AffineObj}
use Rattle.item_core.specs.declared.item.Item.{Item}
use Rattle.leaf_model.specs.LeafModel.{LeafModel}
use Rattle.set_core.specs.declared.set.Set.{Set}
use Rattle.set_core.specs.declared.set.Set.TheVariants.{Nonnegatives}
use Rattle.solver_store.specs.declared.leaf.LeafVar.{LeafVar}
use Rattle.solver_store.specs.declared.leaf.LeafVar.TheVariants as leaf

-- variables that are created in a native set
abbrev pub leaf_variable : Set → LeafVar
leaf_variable (Nonnegatives n) = leaf.Nonneg
leaf_variable _ = leaf.Free

-- a leaf variable for each component of a group
abbrev pub leaf_variables : Item → List (Address × LeafVar)
leaf_variables item = by item.body
  where
    by : Body → List (Address × LeafVar)
    by (Group set vars) = map (λ v. (v, leaf_variable set)) vars
    by (Free vars) = map (λ v. (v, leaf.Free)) vars
    by _ = []

abbrev pub leaf_rows : Item → List (Address × Body)
leaf_rows item = by item.body
  where
    by : Body → List (Address × Body)
    by (Group set vars) = []
    by (Free vars) = []
    by (PlainObj sense var) = []
    by (AffineObj sense func) = []
    by row = (item.at, row) ∷ []

abbrev pub leaf_objectives : Item → List (Address × Body)
leaf_objectives item = by item.body
  where
    by : Body → List (Address × Body)
    by (PlainObj sense var) = (item.at, PlainObj sense var) ∷ []
    by (AffineObj sense func) = (item.at, AffineObj sense func) ∷ []
    by _ = []

abbrev pub leaf_model_of : List Item → LeafModel
leaf_model_of items = record {
  variables = finite.from_entries (flat_map leaf_variables items);
  rows = finite.from_entries (flat_map leaf_rows items);
  objective = finite.from_entries (flat_map leaf_objectives items);
}
