use Rattle.std.proofs.Common.{◌≡◌, ◌++◌, drop, map}
use Rattle.mof_write.specs.Written.{naming}
use Rattle.row_again.proofs.function.variable_names.Given as goal

abbrev pub invariant-loop-var : goal.invariant-loop-var
invariant-loop-var l =
    l.names.items ++ map (naming l.model.model) (drop l.var-index l.vars)
    ≡ map (naming l.model.model) l.vars
