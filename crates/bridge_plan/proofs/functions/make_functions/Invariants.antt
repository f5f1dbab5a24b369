use Rattle.std.proofs.Common.{take}
use Rattle.std.specs.Prelude.{All, IsTrue}
use Rattle.std.specs.FinMap as finite
use Rattle.bridge_plan.specs.Stands.{AreFunctions}
use Rattle.bridge_plan.proofs.functions.make_functions.Given as goal

abbrev pub invariant-loop-var : goal.invariant-loop-var
invariant-loop-var l =
    AreFunctions l.expressions l.functions
    × All (λ t. IsTrue (finite.contains_key l.functions t.0)) (take l.var-index l.var-items)
