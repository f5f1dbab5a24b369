use Rattle.std.proofs.Common.{◌≡◌, take}
use Rattle.std.specs.Prelude.{filter, not}
use Rattle.fresh_bridging.specs.Entries.{expression_in}
use Rattle.touched_items.specs.HeldExpressions.{stays_as}
use Rattle.touched_items.proofs.changed.changed_variables.Given as goal

abbrev pub invariant-loop-var : goal.invariant-loop-var
invariant-loop-var l =
    l.changed.items
    ≡ filter (λ v. not (stays_as l.map v (expression_in l.standing v))) (take l.var-index l.vars)
