-- The items of a model that another table bridges otherwise, told by their kinds.
--     is_given      the kind of the item, as it is bridged, is changed
--     passes        the kind is so by a table
--     AreGiven      of a model, these are the items whose kinds are changed
use Rattle.std.specs.Prelude.{◌≡◌, Bool, false, cond, List, Some, None, filter, slice_index_or}
use Rattle.std.specs.List.{list_any}
use Rattle.std.specs.Option.{option_copied}
use Rattle.aff_core.specs.Address.{Address}
use Rattle.fresh_bridging.specs.ModelImage.{group_item, objective_items, row_item}
use Rattle.item_core.specs.Kind.{kind_number}
use Rattle.item_core.specs.declared.item.Item.{Item}
use Rattle.item_core.specs.declared.kind.Kind.{Kind}
use Rattle.model_bridging.specs.Kinds.{kind_by}
use Rattle.touched_items.specs.Differences.{groups_in, rows_in}
use Rattle.touched_items.specs.declared.differing.ModelItems.{ModelItems}
use Rattle.user_model.specs.Model.{ModelValue}

-- of a table of kinds by their numbers
abbrev pub passes : List Bool → Kind → Bool
passes table kind = slice_index_or table (kind_number kind) false

module _ (changed : Kind → Bool) (kept : Address → Bool) where
  abbrev pub is_given : Item → Bool
  is_given item = changed (kind_by kept item.body)

  pub record AreGiven (model : ModelValue) (c : ModelItems) : Type 0 where
    pub groups : groups_in c ≡ filter (λ g. is_given (group_item g)) model.groups
    pub rows : rows_in c ≡ filter (λ r. is_given (row_item r)) model.rows
    pub objective :
        option_copied c.objective
        ≡ cond (list_any is_given (objective_items model.objective)) (Some model.objective) None
