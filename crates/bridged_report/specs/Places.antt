-- Where something is in the user's model, by name: a group is named by its first variable.
use Rattle.std.specs.Prelude.{ℕ, Option, Some}
use Rattle.std.specs.Option.{option_map}
use Rattle.aff_core.specs.Address.{Address}
use Rattle.aff_core.specs.declared.root.Root.{Root}
use Rattle.aff_core.specs.declared.root.Root.TheVariants.{Variable, Group, Row, Objective}
use Rattle.report_core.specs.declared.refused.Place.{Place}
use Rattle.report_core.specs.declared.refused.Place.TheVariants as place
use Rattle.user_model.specs.Model.{ModelValue, name_at, variable_address}
use Rattle.bridged_report.specs.Addresses.{group_name, row_name}

abbrev pub place_from : ModelValue → Root → ℕ → Option Place
place_from model Variable number = option_map place.Var (name_at model (variable_address number))
place_from model Group number = option_map place.Var (group_name model number)
place_from model Row number = option_map place.Row (row_name model number)
place_from model Objective number = Some place.Objective

-- from where the address leads on
abbrev pub place_at : ModelValue → Address → Option Place
place_at model at = place_from model at.root at.number
