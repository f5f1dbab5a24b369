use Rattle.std.proofs.Common.{◌≡◌, ◌++◌, drop, map}
use Rattle.item_core.specs.declared.image.Expression.TheVariants.{Kept}
use Rattle.fresh_bridging.specs.Entries.{Entry}
use Rattle.aff_core.specs.Address.{Address}
use Rattle.bridge_plan.proofs.planning.keep_each.Given as goal

abbrev pub kept : Address → Entry
kept v = record { component = v; expression = Kept v }

abbrev pub invariant-loop-var : goal.invariant-loop-var
invariant-loop-var l =
    l.entries.items ++ map kept (drop l.var-index l.vars)
    ≡ l.initial.entries.items ++ map kept l.vars
