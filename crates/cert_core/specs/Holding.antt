-- Functions in their sets, at a point and along a ray.
use Rattle.std.specs.Prelude.{◌≡◌, List, length, All}
use Rattle.ratio_core.specs.Rational.{Rational}
use Rattle.aff_core.specs.Address.{Address}
use Rattle.aff_core.specs.Function.{Function}
use Rattle.aff_core.specs.FunctionLists.{evaluations}
use Rattle.set_core.specs.declared.set.Set.{Set}
use Rattle.set_core.specs.Membership.{In}
use Rattle.set_core.specs.Mirrored.{multiplied}
use Rattle.set_core.specs.Shapes.{dimension_of}
use Rattle.user_model.specs.declared.group.Group.{Group}
use Rattle.user_model.specs.declared.row.Row.{Row}
use Rattle.user_model.specs.Model.{ModelValue}
use Rattle.certificates.specs.Points.{all_addresses, at_point, functions_of, functions_of_group}
use Rattle.cert_core.specs.Variables.{Ascend}

-- values in the set where `one` is 1, and slopes in its recession set where it is 0
abbrev pub FunctionsHold : Rational → Set → List Function → (Address → Rational) → Type 0
FunctionsHold one set fs x = In (multiplied one set) (evaluations one fs x)

-- each row and each group of a model holds so
pub record ModelHoldsAt (model : ModelValue) (one : Rational) (x : List Rational) : Type 0 where
  pub rows : All (λ r. FunctionsHold one r.set (functions_of r.func) (at_point model x)) model.rows
  pub groups :
      All (λ g. FunctionsHold one g.set (functions_of_group g) (at_point model x)) model.groups

-- ---- sets for n components

pub record HasRowSet (r : Row) : Type 0 where
  pub dimension : length (functions_of r.func) ≡ dimension_of r.set

pub record HasGroupSet (g : Group) : Type 0 where
  pub dimension : length g.vars ≡ dimension_of g.set

-- the addresses are those of the groups' variables, and each row and group has such a set
pub record HasSets (groups : List Group) (rows : List Row) (us : List Address) : Type 0 where
  pub variables : us ≡ all_addresses groups
  pub ascend : Ascend us
  pub row_sets : All HasRowSet rows
  pub group_sets : All HasGroupSet groups
