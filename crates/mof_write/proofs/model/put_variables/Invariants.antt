use Rattle.std.proofs.Common.{◌≡◌, ◌++◌, drop, map, take}
use Rattle.std.specs.Prelude.{All}
use Rattle.serde_json.specs.View.{view}
use Rattle.mof_write.specs.Written.{variable_entry}
use Rattle.mof_write.specs.Sayable.{HasName}
use Rattle.mof_write.proofs.model.put_variables.Given as goal

abbrev pub invariant-loop-var : goal.invariant-loop-var
invariant-loop-var l = record {
  made : map view l.values.items ++ map variable_entry (drop l.var-index l.vars)
      ≡ map view l.initial.values.items ++ map variable_entry l.vars;
  fits : All HasName (take l.var-index l.vars);
}
