-- Points that meet every row and every group, and rays that lead nowhere out of them.
use Rattle.std.specs.Prelude.{◌≡◌, List, length, All}
use Rattle.ratio_core.specs.Rational.{Rational, ◌‹ℚ◌}
use Rattle.aff_core.specs.declared.sense.Sense.{Sense}
use Rattle.aff_core.specs.declared.sense.Sense.TheVariants.{Min, Max}
use Rattle.aff_core.specs.FunctionLists.{slopes, values}
use Rattle.set_core.specs.Membership.{In, recession}
use Rattle.user_model.specs.Model.{ModelValue, variables}
use Rattle.certificates.specs.Points.{at_point, functions_of, functions_of_group}

-- each row's and each group's values are in its set
pub record IsFeasible (model : ModelValue) (x : List Rational) : Type 0 where
  pub size : length x ≡ length (variables model)
  pub groups :
      All (λ g. In g.set (values (functions_of_group g) (at_point model x))) model.groups
  pub rows : All (λ r. In r.set (values (functions_of r.func) (at_point model x))) model.rows

-- each row's and each group's slopes are in the recession set of its set
pub record IsRay (model : ModelValue) (d : List Rational) : Type 0 where
  pub size : length d ≡ length (variables model)
  pub groups :
      All (λ g. In (recession g.set) (slopes (functions_of_group g) (at_point model d)))
      model.groups
  pub rows :
      All (λ r. In (recession r.set) (slopes (functions_of r.func) (at_point model d))) model.rows

-- a value is better than another
abbrev pub IsBetter : Sense → Rational → Rational → Type 0
IsBetter Min p q = p ‹ℚ q
IsBetter Max p q = q ‹ℚ p
