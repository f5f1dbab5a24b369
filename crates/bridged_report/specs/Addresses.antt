-- Addresses by the names of the user's model: `v:`, `g:` or `r:` with a name, or `o`, and then a
-- point and each position.
use Rattle.std.specs.Prelude.{ℕ, List, [], ◌++◌, Option, codes, decimal, flat_map, option_and_then, slice_get}
use Rattle.std.specs.Option.{option_map, option_map_or}
use Rattle.aff_core.specs.Address.{Address}
use Rattle.aff_core.specs.declared.root.Root.{Root}
use Rattle.aff_core.specs.declared.root.Root.TheVariants.{Variable, Group, Row, Objective}
use Rattle.name_index.specs.Escape.{escaped}
use Rattle.numbered_list.specs.Numbered as numbered
use Rattle.user_model.specs.Edited.{group_number, row_number}
use Rattle.user_model.specs.Model.{ModelValue, name_at, variable_address}

-- the name of the group's first variable
abbrev pub group_name : ModelValue → ℕ → Option (List ℕ)
group_name model number =
    option_and_then (λ g. option_map (λ v. v.name) (slice_get g.vars 0))
    (numbered.find group_number number model.groups)

abbrev pub row_name : ModelValue → ℕ → Option (List ℕ)
row_name model number =
    option_map (λ r. r.name) (numbered.find row_number number model.rows)

-- the name as it is written, and nothing where there is none
abbrev pub written : Option (List ℕ) → List ℕ
written name = option_map_or escaped name []

abbrev pub root_text : ModelValue → Root → ℕ → List ℕ
root_text model Variable number =
    codes "v:" ++ written (name_at model (variable_address number))
root_text model Group number = codes "g:" ++ written (group_name model number)
root_text model Row number = codes "r:" ++ written (row_name model number)
root_text model Objective number = codes "o"

abbrev pub position_text : ℕ → List ℕ
position_text position = codes "." ++ decimal position

unfoldable pub address_text : ModelValue → Address → List ℕ
address_text model at = root_text model at.root at.number ++ flat_map position_text at.positions
