use Rattle.std.proofs.Common.{drop, map, ◌++◌, ◌≡◌}
use Rattle.serde_json.specs.Data.{string}
use Rattle.serde_json.specs.View.{view}
use Rattle.mof_write.proofs.constraints.names.Given as goal

abbrev pub invariant-loop-var : goal.invariant-loop-var
invariant-loop-var l =
    map view l.values.items ++ map (λ v. string v.name) (drop l.var-index l.vars)
    ≡ map (λ v. string v.name) l.vars
