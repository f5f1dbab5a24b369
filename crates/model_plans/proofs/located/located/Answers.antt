use Rattle.std.proofs.Common.{subst}
use Rattle.user_model.specs.Refusals.{IsKnown}
use Rattle.model_plans.proofs.located.located.Goals as goal

pub affine-requires-clause-known : goal.affine-requires-clause-known
affine-requires-clause-known c =
    subst (IsKnown c.args.model.now.model) c.in-Affine.is c.requires.known

pub affines-requires-clause-known : goal.affines-requires-clause-known
affines-requires-clause-known c =
    subst (IsKnown c.args.model.now.model) c.in-AffineVec.is c.requires.known
