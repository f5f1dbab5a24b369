-- What a plan of an edit holds: the contents that are to stand, each other than what stands, and
-- the names that change.
use Rattle.std.specs.Prelude.{◌≡◌, ◌≢◌, MatchOption, ℕ, List, All, Option, Some, None, map, filter}
use Rattle.std.specs.Option.{is_none}
use Rattle.ratio_core.specs.Rational.{Rational}
use Rattle.aff_core.specs.Function.{Function, with_coefficient}
use Rattle.numbered_list.specs.declared.change.Change.{Change}
use Rattle.user_model.specs.declared.edit.Edit.{Edit}
use Rattle.user_model.specs.declared.edit.Edit.TheVariants as edit
use Rattle.user_model.specs.declared.group.Group.{Group}
use Rattle.user_model.specs.declared.group.GroupVar.{GroupVar}
use Rattle.user_model.specs.declared.objective.Objective.{Objective}
use Rattle.user_model.specs.declared.row.Row.{Row}
use Rattle.user_model.specs.declared.undo.NextNumbers.{NextNumbers}
use Rattle.user_model.specs.Model.{ModelValue, variable_address}
use Rattle.user_model.specs.Edited.{group_number, row_number, with_constant}
use Rattle.user_model.specs.Consistent.{IsConsistent, IsWithinLimits}
use Rattle.user_model.specs.Refusals.{first_refusal}
use Rattle.user_model.specs.Undone.{IsOldObjective}
use Rattle.model_laws.specs.Differing.{Differs}
use Rattle.model_refusals.specs.Accepted.{IsModelVariable}
use Rattle.model_catalog.specs.declared.names.NameChange.{NameChange}
use Rattle.model_plans.specs.declared.parts.Part.{Part}
use Rattle.model_plans.specs.declared.parts.Part.TheVariants.{Coefficient, Constant}
use Rattle.model_plans.specs.declared.plan.EditPlan.{EditPlan}
use Rattle.model_catalog.specs.Exchange.{IsExchange, exchanged}
use Rattle.model_catalog.specs.Named.{AreNameChanges, row_name, variable_name}
use Rattle.model_catalog.specs.Names.{listed_as}

-- the edit is made on a model as edits lead to, and isn't refused
pub record Accepts (model : ModelValue) (e : Edit) : Type 0 where
  pub consistent : IsConsistent model
  pub within : IsWithinLimits model
  pub accepted : first_refusal model e ≡ None

-- the name that is listed, or none, is other than the name that stands at its number
abbrev pub IsRenamed : (ℕ → Option (List ℕ)) → NameChange → Type 0
IsRenamed naming l = naming l.number ≢ l.name

-- the plan leads from the model to the one after, and has exactly what differs
pub record LeadsToTarget (model target : ModelValue) (plan : EditPlan) : Type 0 where
  pub changes : IsExchange plan.exchange
  pub after : exchanged plan.exchange model ≡ target
  pub groups : All (Differs group_number model.groups) plan.exchange.groups.items
  pub rows : All (Differs row_number model.rows) plan.exchange.rows.items
  pub objective : IsOldObjective target.objective model.objective plan.exchange.objective
  pub names : AreNameChanges plan.names model target
  pub variable_names : All (IsRenamed (variable_name model)) plan.names.variables.items
  pub row_names : All (IsRenamed (row_name model)) plan.names.rows.items

-- the parts of a plan
pub record HasParts (plan : EditPlan) (group_list : List (Change Group)) (row_list : List (Change Row))
    (content : Option Objective) (numbers : NextNumbers)
    (variable_list row_name_list : List NameChange) : Type 0 where
  pub groups : plan.exchange.groups.items ≡ group_list
  pub rows : plan.exchange.rows.items ≡ row_list
  pub objective : plan.exchange.objective ≡ content
  pub next : plan.exchange.next ≡ numbers
  pub variables : plan.names.variables.items ≡ variable_list
  pub row_names : plan.names.rows.items ≡ row_name_list

-- the new value, or none where it is the old one
abbrev pub IsChange : {X : Type 0} → X → X → Option X → Type 0
IsChange old new found = MatchOption found (new ≡ old) (λ x. (x ≡ new) × (x ≢ old))

-- the variables with their names
abbrev pub listed_variables : List GroupVar → List NameChange
listed_variables vars = map (λ v. listed_as v.number (Some v.name)) vars

-- the rows that go
abbrev pub gone : List (Change Row) → List NameChange
gone changes = map (λ c. listed_as c.number None) (filter (λ c. is_none c.content) changes)

-- ---- one coefficient, or the constant

-- a coefficient's variable is the model's
abbrev pub IsPart : ModelValue → Part → Type 0
IsPart model (Coefficient var) = IsModelVariable model var
IsPart model Constant = Unit {0}

-- the function with another value there
abbrev pub with_part : Part → Rational → Function → Function
with_part (Coefficient var) value f = with_coefficient f (variable_address var.number) value
with_part Constant value f = with_constant f value

-- the edit that gives it to a scalar row, to a component of a vector row, and to the objective
abbrev pub row_edit : List ℕ → Part → Rational → Edit
row_edit row (Coefficient var) value = edit.Coef row var.name.now value
row_edit row Constant value = edit.Constant row value

abbrev pub output_edit : List ℕ → ℕ → Part → Rational → Edit
output_edit row output (Coefficient var) value = edit.VecCoef row output var.name.now value
output_edit row output Constant value = edit.VecConstant row output value

abbrev pub objective_edit : Part → Rational → Edit
objective_edit (Coefficient var) value = edit.ObjCoef var.name.now value
objective_edit Constant value = edit.ObjConstant value
