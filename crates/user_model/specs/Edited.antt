-- What an accepted edit makes of the model. All that a line doesn't name stays.
use Rattle.std.specs.Prelude.{ℕ, zero, suc, ◌+◌, ◌-◌, ◌==◌, if◌then◌else◌, List, [], ◌∷◌, ◌++◌, length, map, Option, Some, None}
use Rattle.ratio_core.specs.Rational.{Rational}
use Rattle.aff_core.specs.Function.{Function, gathered, with_coefficient}
use Rattle.named_aff.specs.declared.aff.NamedAff.{NamedAff}
use Rattle.set_core.specs.declared.set.Set.{Set}
use Rattle.set_core.specs.declared.set.Set.TheVariants.{Reals}
use Rattle.numbered_list.specs.Numbered.{put, without}
use Rattle.user_model.specs.declared.function.UserFunc.{UserFunc}
use Rattle.user_model.specs.declared.function.UserFunc.TheVariants.{Plain, Affine, PlainVec, AffineVec}
use Rattle.user_model.specs.declared.edit.NamedFunc.{NamedFunc}
use Rattle.user_model.specs.declared.edit.NamedFunc.TheVariants as named
use Rattle.user_model.specs.declared.edit.Edit.{Edit}
use Rattle.user_model.specs.declared.edit.Edit.TheVariants as edit
use Rattle.user_model.specs.declared.group.Group.{Group}
use Rattle.user_model.specs.declared.group.GroupVar.{GroupVar}
use Rattle.user_model.specs.declared.row.Row.{Row}
use Rattle.aff_core.specs.declared.sense.Sense.{Sense}
use Rattle.user_model.specs.declared.objective.Objective.{Objective}
use Rattle.user_model.specs.declared.objective.Objective.TheVariants as objective
use Rattle.user_model.specs.Model.{ModelValue, address_named, group_of, row_named, variable_named}
use Rattle.user_model.specs.Deletion.{without_variable}

-- the number of a group, and of a row
abbrev pub group_number : Group → ℕ
group_number group = group.id

abbrev pub row_number : Row → ℕ
row_number row = row.id

-- ---- functions by name, whose names stand in the model: terms that are zero are dropped

abbrev pub affine : ModelValue → NamedAff → Function
affine model f =
    gathered (map (λ t. (address_named model t.variable, t.coefficient)) f.terms) f.constant

abbrev pub located : ModelValue → NamedFunc → UserFunc
located model (named.Plain var) = Plain (address_named model var)
located model (named.Affine f) = Affine (affine model f)
located model (named.PlainVec vars) = PlainVec (map (address_named model) vars)
located model (named.AffineVec fs) = AffineVec (map (affine model) fs)

-- the objective of a scalar function
abbrev pub objective_of : ModelValue → Sense → NamedFunc → Objective
objective_of model sense (named.Plain var) = objective.Plain sense (address_named model var)
objective_of model sense (named.Affine f) = objective.Affine sense (affine model f)
objective_of model sense (named.PlainVec vars) = objective.Feasibility
objective_of model sense (named.AffineVec fs) = objective.Feasibility

-- ---- changes of functions

-- the variables with these names, numbered from n on
abbrev pub numbered_from : ℕ → List (List ℕ) → List GroupVar
numbered_from n [] = []
numbered_from n (name ∷ names) = record { number = n; name = name } ∷ numbered_from (suc n) names

-- a scalar affine function changed by h
abbrev pub on_affine : (Function → Function) → UserFunc → UserFunc
on_affine h (Plain var) = Plain var
on_affine h (Affine f) = Affine (h f)
on_affine h (PlainVec vars) = PlainVec vars
on_affine h (AffineVec fs) = AffineVec fs

-- the list with the item at place i changed by h
abbrev pub changed_at : {X : Type 0} → ℕ → (X → X) → List X → List X
changed_at i h [] = []
changed_at zero h (x ∷ xs) = h x ∷ xs
changed_at (suc i) h (x ∷ xs) = x ∷ changed_at i h xs

-- the component of a vector affine function with an output, counted from 1, changed by h
abbrev pub on_output : ℕ → (Function → Function) → UserFunc → UserFunc
on_output output h (Plain var) = Plain var
on_output output h (Affine f) = Affine f
on_output output h (PlainVec vars) = PlainVec vars
on_output output h (AffineVec fs) = AffineVec (changed_at (output - 1) h fs)

abbrev pub on_objective : (Function → Function) → Objective → Objective
on_objective h objective.Feasibility = objective.Feasibility
on_objective h (objective.Plain sense var) = objective.Plain sense var
on_objective h (objective.Affine sense f) = objective.Affine sense (h f)

abbrev pub with_constant : Function → Rational → Function
with_constant f value = record f { constant = value }

-- ---- changes of rows and groups

-- the row with a name takes h's place
abbrev pub change_row : ModelValue → List ℕ → (Row → Row) → ModelValue
change_row model name h = by_row (row_named model name)
  where
    by_row : Option Row → ModelValue
    by_row None = model
    by_row (Some row) = record model { rows = put row_number (h row) model.rows }

abbrev pub change_function : ModelValue → List ℕ → (UserFunc → UserFunc) → ModelValue
change_function model name h = change_row model name (λ row. record row { func = h row.func })

abbrev pub delete_row : ModelValue → List ℕ → ModelValue
delete_row model name = by_row (row_named model name)
  where
    by_row : Option Row → ModelValue
    by_row None = model
    by_row (Some row) = record model { rows = without row_number row.id model.rows }

-- the group of the variable with a number changed by h
abbrev pub change_group : ModelValue → ℕ → (Group → Group) → ModelValue
change_group model n h = by_group (group_of model n)
  where
    by_group : Option Group → ModelValue
    by_group None = model
    by_group (Some group) = record model { groups = put group_number (h group) model.groups }

-- the same for the variable with a name
abbrev pub with_variable : ModelValue → List ℕ → (ℕ → ModelValue) → ModelValue
with_variable model name h = by_number (variable_named model name)
  where
    by_number : Option ℕ → ModelValue
    by_number None = model
    by_number (Some n) = h n

abbrev pub renamed : ℕ → List ℕ → GroupVar → GroupVar
renamed n name var = if var.number == n then record var { name = name } else var

-- ---- the edits

abbrev pub add_group : ModelValue → List (List ℕ) → Set → ModelValue
add_group model names set = record model {
  groups = model.groups
      ++ record { id = model.next.group; vars = numbered_from model.next.variable names; set = set }
      ∷ [];
  next = record model.next {
    group = model.next.group + 1;
    variable = model.next.variable + length names;
  };
}

abbrev pub add_row : ModelValue → List ℕ → UserFunc → Set → ModelValue
add_row model name func set = record model {
  rows = model.rows ++ record { id = model.next.row; name = name; func = func; set = set } ∷ [];
  next = record model.next { row = model.next.row + 1 };
}

unfoldable pub edited : ModelValue → Edit → ModelValue
edited model (edit.AddGroup names set) = add_group model names set
edited model (edit.AddRow name func set) = add_row model name (located model func) set
edited model (edit.Objective sense func) =
    record model { objective = objective_of model sense func }
edited model edit.Feasibility = record model { objective = objective.Feasibility }
edited model (edit.Coef row var value) =
    change_function model row (on_affine (λ f. with_coefficient f (address_named model var) value))
edited model (edit.VecCoef row output var value) =
    change_function model row
    (on_output output (λ f. with_coefficient f (address_named model var) value))
edited model (edit.ObjCoef var value) = record model {
  objective =
      on_objective (λ f. with_coefficient f (address_named model var) value) model.objective;
}
edited model (edit.Constant row value) =
    change_function model row (on_affine (λ f. with_constant f value))
edited model (edit.VecConstant row output value) =
    change_function model row (on_output output (λ f. with_constant f value))
edited model (edit.ObjConstant value) =
    record model { objective = on_objective (λ f. with_constant f value) model.objective }
edited model (edit.RowSet row set) = change_row model row (λ r. record r { set = set })
edited model (edit.Reset var set) =
    with_variable model var (λ n. change_group model n (λ g. record g { set = set }))
edited model (edit.FreeGroup var) =
    with_variable model var (λ n. change_group model n (λ g. record g { set = Reals 1 }))
edited model (edit.DeleteVariable var) = with_variable model var (without_variable model)
edited model (edit.DeleteRow row) = delete_row model row
edited model (edit.RenameVariable old new) =
    with_variable model old
    (λ n. change_group model n (λ g. record g { vars = map (renamed n new) g.vars }))
edited model (edit.RenameRow old new) = change_row model old (λ r. record r { name = new })
