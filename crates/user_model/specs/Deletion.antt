-- What stands of a model without a variable: affine functions lose its terms; its group and the
-- plain vector rows that name it shrink; plain scalar rows on it, and groups and rows that are left
-- with no component, are deleted; a plain objective on it is no objective.
use Rattle.std.specs.Prelude.{ℕ, not, ◌==◌, if◌then◌else◌, List, [], ◌∷◌, length, map, filter, Option, Some, None}
use Rattle.std.specs.List.{filter_map, list_any}
use Rattle.ratio_core.specs.Rational.{zero_ℚ}
use Rattle.aff_core.specs.Address.{Address, address_eq}
use Rattle.aff_core.specs.Function.{Function, with_coefficient}
use Rattle.set_core.specs.declared.set.Set.{Set}
use Rattle.user_model.specs.declared.function.UserFunc.{UserFunc}
use Rattle.user_model.specs.declared.function.UserFunc.TheVariants.{Plain, Affine, PlainVec, AffineVec}
use Rattle.user_model.specs.declared.group.Group.{Group}
use Rattle.user_model.specs.declared.row.Row.{Row}
use Rattle.user_model.specs.declared.objective.Objective.{Objective}
use Rattle.user_model.specs.declared.objective.Objective.TheVariants as objective
use Rattle.set_core.specs.Shapes.{resized}
use Rattle.user_model.specs.Model.{ModelValue, has_variable, variable_address}

-- the function without its term at the address
abbrev pub without_term : Address → Function → Function
without_term at f = with_coefficient f at zero_ℚ

-- the addresses but this one
abbrev pub without_address : Address → List Address → List Address
without_address at vars = filter (λ var. not (address_eq at var)) vars

-- a list with its set, or nothing where the list is empty
abbrev pub unless_empty : {X Y : Type 0} → (List X → Set → Y) → Set → List X → Option Y
unless_empty make set [] = None
unless_empty make set (x ∷ xs) = Some (make (x ∷ xs) (resized (length (x ∷ xs)) set))

-- the row without the variable, and nothing where no component is left
abbrev pub row_without : Address → Row → Option Row
row_without at row = by_function row.func
  where
    by_function : UserFunc → Option Row
    by_function (Plain var) = if address_eq at var then None else Some row
    by_function (Affine f) = Some (record row { func = Affine (without_term at f) })
    by_function (PlainVec vars) =
        if list_any (address_eq at) vars
        then unless_empty (λ left set. record row { func = PlainVec left; set = set }) row.set
        (without_address at vars)
        else Some row
    by_function (AffineVec fs) = Some (record row { func = AffineVec (map (without_term at) fs) })

-- the group without the variable, and nothing where it was the only one
abbrev pub group_without : ℕ → Group → Option Group
group_without n group =
    if has_variable n group
    then unless_empty (λ left set. record group { vars = left; set = set }) group.set
    (filter (λ v. not (v.number == n)) group.vars)
    else Some group

abbrev pub objective_without : Address → Objective → Objective
objective_without at objective.Feasibility = objective.Feasibility
objective_without at (objective.Plain sense var) =
    if address_eq at var then objective.Feasibility else objective.Plain sense var
objective_without at (objective.Affine sense f) = objective.Affine sense (without_term at f)

-- the model without the variable with a number
abbrev pub without_variable : ModelValue → ℕ → ModelValue
without_variable model n = record model {
  groups = filter_map (group_without n) model.groups;
  rows = filter_map (row_without (variable_address n)) model.rows;
  objective = objective_without (variable_address n) model.objective;
}
