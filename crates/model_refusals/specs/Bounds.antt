-- The refusals of a new row that bounds a variable.
use Rattle.std.specs.Prelude.{Bool, List, [], ◌∷◌}
use Rattle.user_model.specs.declared.edit.Edit.{Edit}
use Rattle.user_model.specs.declared.refusal.Refusal.{Refusal}
use Rattle.user_model.specs.declared.refusal.Refusal.TheVariants.{LowerBoundAlreadySet, UpperBoundAlreadySet}
use Rattle.user_model.specs.Model.{ModelValue, has_lower_bound, has_upper_bound}
use Rattle.user_model.specs.Refusals.{meets_bound_already_set}
use Rattle.user_model.specs.Sets.{sets_lower, sets_upper}

-- the tests of the bounds that the edit sets, lower bounds first
abbrev pub bound_tests : ModelValue → Edit → List (Bool × Refusal)
bound_tests model e =
    (meets_bound_already_set sets_lower has_lower_bound model e, LowerBoundAlreadySet)
    ∷ (meets_bound_already_set sets_upper has_upper_bound model e, UpperBoundAlreadySet) ∷ []
