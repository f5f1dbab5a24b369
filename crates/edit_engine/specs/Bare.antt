-- Models in which nothing stands.
use Rattle.std.specs.Prelude.{Bool, true, false, ◌&&◌, ◌==◌, length}
use Rattle.user_model.specs.Model.{ModelValue}
use Rattle.user_model.specs.declared.objective.Objective.{Objective}
use Rattle.user_model.specs.declared.objective.Objective.TheVariants.{Feasibility}

abbrev pub is_feasibility : Objective → Bool
is_feasibility Feasibility = true
is_feasibility objective = false

-- there is no group, no row and no objective; numbers may have been used
abbrev pub is_bare : ModelValue → Bool
is_bare model =
    length model.groups == 0 && length model.rows == 0 && is_feasibility model.objective
