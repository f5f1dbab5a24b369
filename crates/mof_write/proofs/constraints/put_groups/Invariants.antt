use Rattle.std.proofs.Common.{◌≡◌, ◌++◌, map}
use Rattle.std.specs.Prelude.{All}
use Rattle.serde_json.specs.View.{view}
use Rattle.mof_write.specs.Written.{group_data}
use Rattle.mof_write.specs.Sayable.{GroupFits}
use Rattle.mof_write.proofs.constraints.put_groups.Given as goal

abbrev pub invariant-loop-group : goal.invariant-loop-group
invariant-loop-group l = record {
  made : map view l.values.items ++ map group_data l.group-iterator
      ≡ map view l.initial.values.items ++ map group_data l.groups.items;
  fits : All GroupFits l.group-iterator → All GroupFits l.groups.items;
}
