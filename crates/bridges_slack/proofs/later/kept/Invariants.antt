use Rattle.std.proofs.Common.{◌≡◌, map, take}
use Rattle.item_core.specs.declared.image.Expression.TheVariants as expressions
use Rattle.bridges_slack.proofs.later.kept.Given as goal

abbrev pub invariant-loop-var : goal.invariant-loop-var
invariant-loop-var l = l.exprs.items ≡ map expressions.Kept (take l.var-index l.vars)
