-- Which rows, and whether the objective, name which variables; and which variables are kept. Both
-- stand in the map of addresses, so that an edit finds what it touches.
--     IsMentionIndex    at each variable exactly the items are noted that name it
--     NotesPairs        these pairs are noted, or not, and others as they were
--     contents_name     a row, or the objective, of some items names a variable
--     marks_of          some variables, as the map marks them
use Rattle.std.specs.Prelude.{◌≡◌, ◌||◌, ◌&&◌, Bool, cond, false, List, is_some, map}
use Rattle.std.specs.FinMap as finite
use Rattle.std.specs.List.{list_any}
use Rattle.std.specs.Option.{option_copied, option_map_or}
use Rattle.address_map.specs.Noted.{AddressSet, Noted, noted_in}
use Rattle.aff_core.specs.Address.{Address, address_eq, root_address}
use Rattle.aff_core.specs.declared.root.Root.TheVariants as root
use Rattle.touched_items.specs.Differences.{rows_in}
use Rattle.touched_items.specs.declared.differing.ModelItems.{ModelItems}
use Rattle.user_model.specs.Functions.{func_mentions}
use Rattle.user_model.specs.Model.{ModelValue, objective_mentions}
use Rattle.user_model.specs.declared.row.Row.{Row}

-- the row stands at the address and names the variable
abbrev pub row_names : Row → Address → Address → Bool
row_names row var at = address_eq at (root_address root.Row row.id) && func_mentions var row.func

-- the row at the address, or the objective, names the variable
abbrev pub other_names : ModelValue → Address → Address → Bool
other_names model var at =
    list_any (λ row. row_names row var at) model.rows
    || (address_eq at (root_address root.Objective 0) && objective_mentions var model.objective)

abbrev pub is_noted : Noted → Address → Address → Bool
is_noted noted var at = is_some (finite.get (noted_in noted var) at)

abbrev pub IsMentionIndex : ModelValue → Noted → Type 0
IsMentionIndex model noted = (var at : Address) → is_noted noted var at ≡ other_names model var at

-- the pairs that pass the test are noted, or not, and others as they were
abbrev pub NotesPairs : (Address → Address → Bool) → Bool → Noted → Noted → Type 0
NotesPairs names now_noted old new =
    (var at : Address) → is_noted new var at ≡ cond (names var at) now_noted (is_noted old var at)

-- a row of the items stands at the address and names the variable, or their objective
abbrev pub contents_name : ModelItems → Address → Address → Bool
contents_name contents var at =
    list_any (λ row. row_names row var at) (rows_in contents)
    || (address_eq at (root_address root.Objective 0)
    && option_map_or (objective_mentions var) (option_copied contents.objective) false)

-- exactly these variables are marked
abbrev pub marks_of : List Address → AddressSet
marks_of vars = finite.from_entries (map (λ v. (v, tt)) vars)
