use Rattle.std.proofs.Common.{◌≡◌, ◌++◌, flat_map, map}
use Rattle.std.specs.Prelude.{All}
use Rattle.serde_json.specs.View.{view}
use Rattle.mof_write.specs.Written.{variable_entry}
use Rattle.mof_write.specs.Sayable.{VarsHaveNames}
use Rattle.mof_write.proofs.model.variables.Given as goal

abbrev pub invariant-loop-group : goal.invariant-loop-group
invariant-loop-group l = record {
  made : map view l.values.items
      ++ map variable_entry (flat_map (λ g. g.vars) l.group-iterator)
      ≡ map variable_entry (flat_map (λ g. g.vars) l.groups.items);
  fits : All VarsHaveNames l.group-iterator → All VarsHaveNames l.groups.items;
}
