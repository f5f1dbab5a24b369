use Rattle.std.proofs.Common.{◌≡◌, take}
use Rattle.model_plans.specs.Plans.{gone}
use Rattle.model_plans.proofs.deletion.gone_rows.Given as goal

abbrev pub invariant-loop-change : goal.invariant-loop-change
invariant-loop-change l = l.names.items ≡ gone (take l.change-index l.changes)
