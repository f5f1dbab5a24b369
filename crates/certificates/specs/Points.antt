-- The functions of a model, and its points: a number for each variable, in the model's order.
use Rattle.std.specs.Prelude.{List, [], ◌∷◌, flat_map, map}
use Rattle.ratio_core.specs.Rational.{Rational, zero_ℚ}
use Rattle.aff_core.specs.Address.{Address}
use Rattle.aff_core.specs.Function.{Function, coefficient, constant_function, slope, value_of, variable}
use Rattle.aff_core.specs.declared.sense.Sense.{Sense}
use Rattle.aff_core.specs.declared.sense.Sense.TheVariants.{Min}
use Rattle.aff_core.specs.Points.{spread}
use Rattle.user_model.specs.declared.function.UserFunc.{UserFunc}
use Rattle.user_model.specs.declared.function.UserFunc.TheVariants.{Plain, Affine, PlainVec, AffineVec}
use Rattle.user_model.specs.declared.group.Group.{Group}
use Rattle.user_model.specs.declared.group.GroupVar.{GroupVar}
use Rattle.user_model.specs.declared.objective.Objective.{Objective}
use Rattle.user_model.specs.declared.objective.Objective.TheVariants as objective
use Rattle.user_model.specs.Model.{ModelValue, variable_address, variables}

-- ---- functions

abbrev pub variables_at : List Address → List Function
variables_at vars = map variable vars

-- the components of a function
abbrev pub functions_of : UserFunc → List Function
functions_of (Plain var) = variable var ∷ []
functions_of (Affine f) = f ∷ []
functions_of (PlainVec vars) = variables_at vars
functions_of (AffineVec fs) = fs

abbrev pub address_of : GroupVar → Address
address_of v = variable_address v.number

abbrev pub addresses_of : List GroupVar → List Address
addresses_of vars = map address_of vars

-- the variables of groups and their addresses, in their order
abbrev pub variables_of : List Group → List GroupVar
variables_of groups = flat_map (λ g. g.vars) groups

abbrev pub all_addresses : List Group → List Address
all_addresses groups = addresses_of (variables_of groups)

-- a group's functions are its variables
abbrev pub functions_of_group : Group → List Function
functions_of_group g = variables_at (addresses_of g.vars)

-- a model without an objective seeks the least value of 0
abbrev pub objective_function : Objective → Function
objective_function objective.Feasibility = constant_function zero_ℚ
objective_function (objective.Plain sense var) = variable var
objective_function (objective.Affine sense f) = f

abbrev pub sense_of : Objective → Sense
sense_of objective.Feasibility = Min
sense_of (objective.Plain sense var) = sense
sense_of (objective.Affine sense f) = sense

-- ---- points

-- the number that a point has at an address, which is 0 where no variable stands
abbrev pub at_point : ModelValue → List Rational → Address → Rational
at_point model x = spread (addresses_of (variables model)) x

-- the objective's value at a point, and its slope along a ray
abbrev pub objective_value : ModelValue → List Rational → Rational
objective_value model x = value_of (objective_function model.objective) (at_point model x)

abbrev pub objective_slope : ModelValue → List Rational → Rational
objective_slope model d = slope (objective_function model.objective) (at_point model d)

abbrev pub objective_coefficient : ModelValue → Address → Rational
objective_coefficient model v = coefficient (objective_function model.objective) v

abbrev pub objective_constant : ModelValue → Rational
objective_constant model = (objective_function model.objective).constant
