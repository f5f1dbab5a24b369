use Rattle.std.proofs.Common.{refl}
use Rattle.user_model.specs.declared.edit.Edit.TheVariants as edit
use Rattle.model_laws.specs.Needed.{known_function}
use Rattle.model_laws.specs.Passed.{passed}
use Rattle.model_plans.proofs.objective.set.Goals as goal

pub objective_of-requires-clause-known : goal.objective_of-requires-clause-known
objective_of-requires-clause-known c =
    let model = c.args.model.now.model in
    let e = edit.Objective c.args.sense c.args.func.now in
    known_function model e c.args.func.now refl (passed model e c.requires.accepted).known
