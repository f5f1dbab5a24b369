-- What is read of a written model: its variables, its constraints and its objective by name, and
-- the edits that make it.
use Rattle.std.specs.Prelude.{ℕ, Bool, true, List, ◌∷◌, ◌++◌, map, Some, None}
use Rattle.ratio_core.specs.Rational.{Rational}
use Rattle.aff_core.specs.Address.{Address}
use Rattle.aff_core.specs.Function.{Function, terms_of}
use Rattle.named_aff.specs.declared.aff.NamedAff.{NamedAff}
use Rattle.named_aff.specs.declared.terms.NamedTerm.{NamedTerm}
use Rattle.set_core.specs.Shapes.{is_scalar}
use Rattle.user_model.specs.declared.edit.NamedFunc.{NamedFunc}
use Rattle.user_model.specs.declared.edit.NamedFunc.TheVariants as named
use Rattle.user_model.specs.declared.function.UserFunc.{UserFunc}
use Rattle.user_model.specs.declared.function.UserFunc.TheVariants.{Plain, Affine, PlainVec, AffineVec}
use Rattle.user_model.specs.declared.group.Group.{Group}
use Rattle.user_model.specs.declared.group.GroupVar.{GroupVar}
use Rattle.user_model.specs.declared.objective.Objective.{Objective}
use Rattle.user_model.specs.declared.objective.Objective.TheVariants as objective
use Rattle.user_model.specs.declared.row.Row.{Row}
use Rattle.user_model.specs.Model.{ModelValue, variables}
use Rattle.mof_file.specs.declared.constraints.FileConstraint.{FileConstraint}
use Rattle.mof_file.specs.declared.objectives.FileObjective.{FileObjective}
use Rattle.mof_file.specs.declared.objectives.FileObjective.TheVariants as file
use Rattle.mof_file.specs.File.{FileValue}
use Rattle.mof_write.specs.Written.{Naming, naming}

-- ---- functions by name

abbrev pub named_term : Naming → Address × Rational → NamedTerm
named_term name t = record { variable = name t.0; coefficient = t.1 }

abbrev pub named_affine : Naming → Function → NamedAff
named_affine name f =
    record { terms = map (named_term name) (terms_of f); constant = f.constant }

abbrev pub named_function : Naming → UserFunc → NamedFunc
named_function name (Plain var) = named.Plain (name var)
named_function name (Affine f) = named.Affine (named_affine name f)
named_function name (PlainVec vars) = named.PlainVec (map name vars)
named_function name (AffineVec fs) = named.AffineVec (map (named_affine name) fs)

-- ---- what the file says

abbrev pub var_names : List GroupVar → List (List ℕ)
var_names vars = map (λ v. v.name) vars

abbrev pub group_function : Bool → List GroupVar → NamedFunc
group_function true (v ∷ vs) = named.Plain v.name
group_function scalar vars = named.PlainVec (var_names vars)

abbrev pub group_constraint : Group → FileConstraint
group_constraint g =
    record { name = None; func = group_function (is_scalar g.set) g.vars; set = g.set }

abbrev pub row_constraint : Naming → Row → FileConstraint
row_constraint name row =
    record { name = Some row.name; func = named_function name row.func; set = row.set }

abbrev pub said_objective : Naming → Objective → FileObjective
said_objective name objective.Feasibility = file.Feasibility
said_objective name (objective.Plain sense var) = file.Optimize sense (named.Plain (name var))
said_objective name (objective.Affine sense f) =
    file.Optimize sense (named.Affine (named_affine name f))

unfoldable pub said_of : ModelValue → FileValue
said_of model = record {
  variables = var_names (variables model);
  objective = said_objective (naming model) model.objective;
  constraints = map group_constraint model.groups
      ++ map (row_constraint (naming model)) model.rows;
}
