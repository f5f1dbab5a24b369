-- The edits of one coefficient or of the constant, whose variable is found by its name.
use Rattle.std.proofs.Common.{◌≡◌, ℕ, List, refl, sym, ap}
use Rattle.ratio_core.specs.Rational.{Rational}
use Rattle.aff_core.specs.Function.{with_coefficient}
use Rattle.user_model.specs.Edited.{change_function, edited, on_affine, on_objective, on_output}
use Rattle.user_model.specs.Model.{ModelValue}
use Rattle.model_laws.specs.Located.{address_found}
use Rattle.model_plans.specs.declared.parts.Part.{Part}
use Rattle.model_plans.specs.declared.parts.Part.TheVariants.{Coefficient, Constant}
use Rattle.model_plans.specs.Plans.{IsPart, objective_edit, output_edit, row_edit, with_part}

pub row_edited : (model : ModelValue) (name : List ℕ) (part : Part) (value : Rational)
    → IsPart model part → change_function model name (on_affine (with_part part value))
    ≡ edited model (row_edit name part value)
unfolding edited
row_edited model name (Coefficient var) value h =
    ap (λ at. change_function model name (on_affine (λ f. with_coefficient f at value)))
    (sym (address_found model var.name.now var.number h))
row_edited model name Constant value h = refl

pub output_edited : (model : ModelValue) (name : List ℕ) (output : ℕ) (part : Part)
    (value : Rational) → IsPart model part
    → change_function model name (on_output output (with_part part value))
    ≡ edited model (output_edit name output part value)
unfolding edited
output_edited model name output (Coefficient var) value h =
    ap (λ at. change_function model name (on_output output (λ f. with_coefficient f at value)))
    (sym (address_found model var.name.now var.number h))
output_edited model name output Constant value h = refl

pub objective_edited : (model : ModelValue) (part : Part) (value : Rational) → IsPart model part
    → record model { objective = on_objective (with_part part value) model.objective } ≡ edited
    model (objective_edit part value)
unfolding edited
objective_edited model (Coefficient var) value h =
    ap (λ at. record model {
      objective = on_objective (λ f. with_coefficient f at value)
          model.objective;
    }) (sym (address_found model var.name.now var.number h))
objective_edited model Constant value h = refl
