use Rattle.std.proofs.Common.{subst}
use Rattle.user_model.specs.Refusals.{IsKnown}
use Rattle.model_plans.proofs.objective.objective_of.Goals as goal

pub affine-requires-clause-known : goal.affine-requires-clause-known
affine-requires-clause-known c =
    subst (IsKnown c.args.model.now.model) c.in-Affine.is c.requires.known
