-- Names and numbers that a file can say: every kept model has no others.
use Rattle.std.specs.Prelude.{⊤, All}
use Rattle.ratio_core.specs.Rational.{Fits, Rational}
use Rattle.aff_core.specs.Address.{Address}
use Rattle.aff_core.specs.Function.{Function, terms_of}
use Rattle.name_index.specs.Name.{IsName}
use Rattle.set_core.specs.declared.set.Set.{Set}
use Rattle.set_core.specs.declared.set.Set.TheVariants.{LessThan, GreaterThan, EqualTo, Interval}
use Rattle.user_model.specs.declared.function.UserFunc.{UserFunc}
use Rattle.user_model.specs.declared.function.UserFunc.TheVariants.{Plain, Affine, PlainVec, AffineVec}
use Rattle.user_model.specs.declared.group.Group.{Group}
use Rattle.user_model.specs.declared.group.GroupVar.{GroupVar}
use Rattle.user_model.specs.declared.objective.Objective.{Objective}
use Rattle.user_model.specs.declared.objective.Objective.TheVariants as objective
use Rattle.user_model.specs.declared.row.Row.{Row}
use Rattle.user_model.specs.Model.{ModelValue}

abbrev pub SetFits : Set → Type 0
SetFits (LessThan u) = Fits u
SetFits (GreaterThan l) = Fits l
SetFits (EqualTo a) = Fits a
SetFits (Interval l u) = Fits l × Fits u
SetFits _ = ⊤

-- the coefficient fits
abbrev pub TermFits : Address × Rational → Type 0
TermFits t = Fits t.1

abbrev pub ConstantFits : Function → Type 0
ConstantFits f = Fits f.constant

abbrev pub EachTermFits : Function → Type 0
EachTermFits f = All TermFits (terms_of f)

abbrev pub FunctionFits : Function → Type 0
FunctionFits f = ConstantFits f × EachTermFits f

abbrev pub UserFuncFits : UserFunc → Type 0
UserFuncFits (Plain var) = ⊤
UserFuncFits (Affine f) = FunctionFits f
UserFuncFits (PlainVec vars) = ⊤
UserFuncFits (AffineVec fs) = All FunctionFits fs

abbrev pub ObjectiveFits : Objective → Type 0
ObjectiveFits objective.Feasibility = ⊤
ObjectiveFits (objective.Plain sense var) = ⊤
ObjectiveFits (objective.Affine sense f) = FunctionFits f

abbrev pub HasName : GroupVar → Type 0
HasName v = IsName v.name

abbrev pub VarsHaveNames : Group → Type 0
VarsHaveNames g = All HasName g.vars

abbrev pub GroupFits : Group → Type 0
GroupFits g = SetFits g.set

pub record IsSayableRow (row : Row) : Type 0 where
  pub name : IsName row.name
  pub set : SetFits row.set
  pub function : UserFuncFits row.func

pub record IsSayable (model : ModelValue) : Type 0 where
  pub names : All VarsHaveNames model.groups
  pub groups : All GroupFits model.groups
  pub rows : All IsSayableRow model.rows
  pub objective : ObjectiveFits model.objective
