use Rattle.std.proofs.Common.{◌≡◌, ◌≢◌, sym, subst, ap, ◌∙◌}
use Rattle.std.specs.Prelude.{MatchBool}
use Rattle.aff_core.specs.Function.{coefficient}
use Rattle.user_model.specs.Model.{variable_address}
use Rattle.model_plans.specs.Plans.{with_part}
use Rattle.model_plans.proofs.Comparisons.{has_coefficient, has_constant}
use Rattle.model_plans.proofs.parts.is_value.Goals as goal

pub returns-in-Coefficient : goal.returns-in-Coefficient
returns-in-Coefficient c =
    let f = c.args.func.now in
    subst (λ p. MatchBool c.eq.result (with_part p c.args.value f ≡ f)
    (with_part p c.args.value f ≢ f)) (sym c.in-Coefficient.is)
    (has_coefficient f (variable_address c.in-Coefficient.var.number) c.args.value c.eq.result
    c.coef.result (c.coef.ensures ∙ ap (coefficient f) c.address.ensures) c.eq.ensures)

pub returns-in-Constant : goal.returns-in-Constant
returns-in-Constant c =
    let f = c.args.func.now in
    subst (λ p. MatchBool c.eq-in-Constant.result (with_part p c.args.value f ≡ f)
    (with_part p c.args.value f ≢ f)) (sym c.in-Constant.is)
    (has_constant f c.args.value c.eq-in-Constant.result c.constant.result c.constant.ensures
    c.eq-in-Constant.ensures)
