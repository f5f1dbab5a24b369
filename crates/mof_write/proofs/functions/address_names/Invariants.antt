use Rattle.std.proofs.Common.{drop, map, ◌++◌, ◌≡◌}
use Rattle.serde_json.specs.View.{view}
use Rattle.mof_write.specs.Written.{address_data, naming}
use Rattle.mof_write.proofs.functions.address_names.Given as goal

abbrev pub invariant-loop-var : goal.invariant-loop-var
invariant-loop-var l =
    map view l.names.items ++ map (address_data (naming l.model.model)) (drop l.var-index l.vars)
    ≡ map (address_data (naming l.model.model)) l.vars
