-- The items that differ, of what is listed.
--     AreDiffering             the listed items that differ from what stands in a model
--     differing_addresses      their addresses, before and after
--     own_variables            the variables of the groups among them, before and after
use Rattle.std.specs.Prelude.{ℕ, ◌+◌, ◌++◌, List, [], ◌∷◌, Some, flat_map, length, map, unwrap_or}
use Rattle.std.specs.Option.{option_copied, option_map_or}
use Rattle.aff_core.specs.Address.{Address, root_address}
use Rattle.aff_core.specs.declared.root.Root.TheVariants as root
use Rattle.fresh_bridging.specs.ModelImage.{group_item, objective_items, row_item}
use Rattle.numbered_list.specs.declared.change.Change.{Change}
use Rattle.numbered_list.specs.Numbered.{find}
use Rattle.user_model.specs.Edited.{group_number, row_number}
use Rattle.user_model.specs.Model.{ModelValue, variable_address}
use Rattle.user_model.specs.declared.group.Group.{Group}
use Rattle.user_model.specs.declared.row.Row.{Row}
use Rattle.touched_items.specs.FirstChanges.{stood_at}
use Rattle.touched_items.specs.Sides.{AreSides, IsSeparated}
use Rattle.touched_items.specs.declared.differing.ModelItems.{ModelItems}
use Rattle.touched_items.specs.declared.differing.Differing.{Differing}
use Rattle.touched_items.specs.declared.listed.ListedChanges.{ListedChanges}

-- ---- what is listed

abbrev pub listed_groups : ListedChanges → List (Change Group)
listed_groups listed = map (λ c. c.now) listed.groups.items

abbrev pub listed_rows : ListedChanges → List (Change Row)
listed_rows listed = map (λ c. c.now) listed.rows.items

abbrev pub count_listed : ListedChanges → ℕ
count_listed listed =
    length listed.groups.items + length listed.rows.items
    + option_map_or (λ _. 1) listed.objective 0

-- ---- what differs

abbrev pub groups_in : ModelItems → List Group
groups_in contents = map (λ g. g.now) contents.groups.items

abbrev pub rows_in : ModelItems → List Row
rows_in contents = map (λ r. r.now) contents.rows.items

pub record AreDiffering (listed : ListedChanges) (model : ModelValue) (d : Differing) : Type 0 where
  pub groups :
      AreSides group_number group_item
      (stood_at (λ n. find group_number n model.groups) (listed_groups listed))
      (λ n. find group_number n model.groups) (groups_in d.before) (groups_in d.after)
  pub rows :
      AreSides row_number row_item
      (stood_at (λ n. find row_number n model.rows) (listed_rows listed))
      (λ n. find row_number n model.rows) (rows_in d.before) (rows_in d.after)
  pub objective :
      IsSeparated objective_items
      (Some (unwrap_or (option_copied listed.objective) model.objective)) (Some model.objective)
      (option_copied d.before.objective) (option_copied d.after.objective)

-- ---- where it stands

abbrev pub group_addresses : List Group → List Address
group_addresses groups = map (λ g. root_address root.Group g.id) groups

abbrev pub row_addresses : List Row → List Address
row_addresses rows = map (λ r. root_address root.Row r.id) rows

abbrev pub addresses_in : ModelItems → List Address
addresses_in contents =
    group_addresses (groups_in contents)
    ++ (row_addresses (rows_in contents)
    ++ option_map_or (λ _. root_address root.Objective 0 ∷ []) contents.objective [])

abbrev pub differing_addresses : Differing → List Address
differing_addresses d = addresses_in d.before ++ addresses_in d.after

-- ---- variables of groups

abbrev pub variables_in : List Group → List Address
variables_in groups = flat_map (λ g. map (λ v. variable_address v.number) g.vars) groups

abbrev pub own_variables : Differing → List Address
own_variables d = variables_in (groups_in d.before) ++ variables_in (groups_in d.after)
