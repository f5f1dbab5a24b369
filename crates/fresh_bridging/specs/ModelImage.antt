-- The user's model as items: its groups, its rows and its objective, each at an address of its own.
use Rattle.std.specs.Prelude.{◌++◌, List, [], ◌∷◌, map}
use Rattle.set_core.specs.declared.set.Set.{Set}
use Rattle.aff_core.specs.Address.{root_address}
use Rattle.aff_core.specs.declared.root.Root.TheVariants as root
use Rattle.expansion.specs.Rules.{ItemChildren}
use Rattle.item_core.specs.declared.item.Body.{Body}
use Rattle.item_core.specs.declared.item.Body.TheVariants as body
use Rattle.item_core.specs.declared.item.Item.{Item}
use Rattle.user_model.specs.Model.{ModelValue, variable_address}
use Rattle.user_model.specs.declared.function.UserFunc.{UserFunc}
use Rattle.user_model.specs.declared.function.UserFunc.TheVariants.{Plain, Affine, PlainVec, AffineVec}
use Rattle.user_model.specs.declared.group.Group.{Group}
use Rattle.user_model.specs.declared.objective.Objective.{Objective}
use Rattle.user_model.specs.declared.objective.Objective.TheVariants as objective
use Rattle.user_model.specs.declared.row.Row.{Row}

abbrev pub group_item : Group → Item
group_item group = record {
  at = root_address root.Group group.id;
  body = body.Group group.set (map (λ v. variable_address v.number) group.vars);
}

abbrev pub row_body : UserFunc → Set → Body
row_body (Plain var) set = body.Plain var set
row_body (Affine func) set = body.Affine func set
row_body (PlainVec vars) set = body.PlainVec vars set
row_body (AffineVec funcs) set = body.AffineVec funcs set

abbrev pub row_item : Row → Item
row_item row = record { at = root_address root.Row row.id; body = row_body row.func row.set }

abbrev pub objective_item : Body → Item
objective_item body = record { at = root_address root.Objective 0; body = body }

-- a model without an objective has no item for it
abbrev pub objective_items : Objective → List Item
objective_items objective.Feasibility = []
objective_items (objective.Plain sense var) = objective_item (body.PlainObj sense var) ∷ []
objective_items (objective.Affine sense func) = objective_item (body.AffineObj sense func) ∷ []

abbrev pub model_image : ModelValue → ItemChildren Item
model_image model = record {
  groups = map group_item model.groups;
  others = map row_item model.rows ++ objective_items model.objective;
}

-- the user's items in the order of their addresses
abbrev pub items_of : ModelValue → List Item
items_of model = (model_image model).groups ++ (model_image model).others
