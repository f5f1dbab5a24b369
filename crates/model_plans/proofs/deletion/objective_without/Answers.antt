use Rattle.std.proofs.Common.{ap, sym, ◌∙◌}
use Rattle.aff_core.specs.Function.{with_coefficient}
use Rattle.model_plans.proofs.LeftObjectives.{affine_left, affine_stays}
use Rattle.model_plans.proofs.deletion.objective_without.Goals as goal

pub returns-then-not-mentions : goal.returns-then-not-mentions
returns-then-not-mentions c =
    affine_stays c.args.at.now c.args.objective.now c.in-Affine.sense c.in-Affine.func
    c.in-Affine.is (sym c.mentions.ensures ∙ c.if-not-mentions.true)

pub returns-in_ok-with_coef-in-Affine : goal.returns-in_ok-with_coef-in-Affine
returns-in_ok-with_coef-in-Affine c =
    affine_left c.args.at.now c.args.objective.now c.in-Affine.sense c.in-Affine.func
    c.in_ok-with_coef-in-Affine.field-0 c.in-Affine.is (sym c.mentions.ensures
    ∙ c.if-not-mentions.false) (c.in_ok-with_coef-in-Affine.ensures.same
    ∙ ap (with_coefficient c.in-Affine.func c.args.at.now) c.zero.ensures)
