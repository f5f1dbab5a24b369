use Rattle.std.proofs.Common.{subst}
use Rattle.std.specs.Prelude.{All}
use Rattle.mof_write.specs.Sayable.{VarsHaveNames}
use Rattle.mof_write.proofs.model.model_value.Goals as goal

pub returns-clause-sayable : goal.returns-clause-sayable
returns-clause-sayable c = record {
  names = subst (All VarsHaveNames) c.groups.ensures.value c.in_ok-variables.ensures.names;
  groups = c.in_ok-constraints.ensures.groups;
  rows = c.in_ok-constraints.ensures.rows;
  objective = c.in_ok-objective.ensures.fits;
}
