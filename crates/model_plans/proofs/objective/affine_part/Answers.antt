use Rattle.std.proofs.Common.{subst}
use Rattle.std.specs.Prelude.{IfOk}
use Rattle.model_plans.specs.Plans.{LeadsToTarget}
use Rattle.model_plans.proofs.PartEdits.{objective_edited}
use Rattle.model_plans.proofs.objective.affine_part.Goals as goal

pub returns : goal.returns
returns c =
    let model = c.args.model.now.model in
    subst (λ after. IfOk c.with_part_of.result (LeadsToTarget model after))
    (objective_edited model c.args.part.now c.args.value c.requires.part) c.with_part_of.ensures
