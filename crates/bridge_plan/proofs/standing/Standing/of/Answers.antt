use Rattle.bridge_plan.proofs.Made.{none_made}
use Rattle.bridge_plan.proofs.standing.Standing.of.Goals as goal

pub invariant_of-result : goal.invariant_of-result
invariant_of-result c =
    none_made c.new-functions.result c.in_ok-expressions.expressions
    c.new-functions.ensures
