use Rattle.std.proofs.Common.{take}
use Rattle.std.specs.Prelude.{All}
use Rattle.fresh_bridging.specs.Entries.{function_in}
use Rattle.bridge_plan.specs.Stands.{IsNamed}
use Rattle.bridge_plan.proofs.renaming.stays.Given as goal

abbrev pub invariant-loop-var : goal.invariant-loop-var
invariant-loop-var l =
    All (IsNamed (function_in l.expressions) (λ v. v)) (take l.var-index l.var-items)
