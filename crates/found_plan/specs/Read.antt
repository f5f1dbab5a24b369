-- What stands for variables by a map of addresses, for the variables that rows and an objective name.
--     named_by             the variables that they name, one after another
--     read_expression      what stands for a variable by its function and its mark
--     own_entries          what stands for the variables of groups by a standing
use Rattle.std.specs.Prelude.{Bool, ◌++◌, cond, List, [], ◌∷◌, Option, flat_map, is_some, map, slice_get}
use Rattle.std.specs.FinMap as finite
use Rattle.std.specs.Option.{option_map_or}
use Rattle.address_map.specs.AddressMap.{AddressMap}
use Rattle.aff_core.specs.Address.{Address}
use Rattle.aff_core.specs.Function.{Function, terms_of}
use Rattle.fresh_bridging.specs.Entries.{Entry, expression_in}
use Rattle.item_core.specs.declared.image.Expression.{Expression}
use Rattle.item_core.specs.declared.image.Expression.TheVariants.{Bridged, Kept}
use Rattle.user_model.specs.Model.{variable_address}
use Rattle.user_model.specs.declared.function.UserFunc.{UserFunc}
use Rattle.user_model.specs.declared.function.UserFunc.TheVariants.{Plain, Affine, PlainVec, AffineVec}
use Rattle.user_model.specs.declared.group.Group.{Group}
use Rattle.user_model.specs.declared.group.GroupVar.{GroupVar}
use Rattle.user_model.specs.declared.objective.Objective.{Objective}
use Rattle.user_model.specs.declared.objective.Objective.TheVariants as objective
use Rattle.user_model.specs.declared.row.Row.{Row}

-- ---- what is named

abbrev pub named_in : Function → List Address
named_in f = map (λ t. t.0) (terms_of f)

abbrev pub named_in_row : UserFunc → List Address
named_in_row (Plain var) = var ∷ []
named_in_row (Affine f) = named_in f
named_in_row (PlainVec vars) = vars
named_in_row (AffineVec fs) = flat_map named_in fs

abbrev pub named_in_objective : Objective → List Address
named_in_objective objective.Feasibility = []
named_in_objective (objective.Plain sense var) = var ∷ []
named_in_objective (objective.Affine sense f) = named_in f

abbrev pub named_by : List Row → Option Objective → List Address
named_by rows o =
    flat_map (λ (r : Row). named_in_row r.func) rows ++ option_map_or named_in_objective o []

-- ---- what stands for it

-- of a variable as it is, which a function is, the variable
abbrev pub first_named : Address → Function → Address
first_named v f = option_map_or (λ t. t.0) (slice_get (terms_of f) 0) v

abbrev pub is_marked : AddressMap → Address → Bool
is_marked places v = is_some (finite.get places.kept v)

-- a variable without a function stands for itself
abbrev pub read_expression : AddressMap → Address → Expression
read_expression places v =
    option_map_or (λ f. cond (is_marked places v) (Kept (first_named v f)) (Bridged f))
    (finite.get places.exprs v) (Kept v)

abbrev pub read_entry : AddressMap → Address → Entry
read_entry places v = record { component = v; expression = read_expression places v }

abbrev pub read_entries : AddressMap → List Address → List Entry
read_entries places vs = map (read_entry places) vs

-- ---- by a standing

abbrev pub own_entry : List Entry → GroupVar → Entry
own_entry standing v = record {
  component = variable_address v.number;
  expression = expression_in standing (variable_address v.number);
}

abbrev pub own_entries : List Entry → List Group → List Entry
own_entries standing groups =
    flat_map (λ (g : Group). map (own_entry standing) g.vars) groups
