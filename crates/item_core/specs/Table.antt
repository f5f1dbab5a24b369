-- Tables, and those of the targets.
use Rattle.std.specs.Prelude.{Bool, true, List, replicate}
use Rattle.item_core.specs.declared.table.Table.{Table}
use Rattle.item_core.specs.declared.table.Target.{Target}
use Rattle.item_core.specs.declared.table.Target.TheVariants.{Standard, Rows, Cone, All, Less}
use Rattle.item_core.specs.declared.kind.KindTable.{KindTable}
use Rattle.item_core.specs.declared.kind.TheConstants.{KINDS}
use Rattle.item_core.specs.Edge.{edge_count, family_count}

-- which kinds the target supports, as a table of kinds says
abbrev pub supported_in : KindTable → Target → List Bool
supported_in kinds Standard = kinds.standard
supported_in kinds Rows = kinds.rows
supported_in kinds Cone = kinds.cone
supported_in kinds All = kinds.all
supported_in kinds Less = kinds.less

abbrev pub supported_by : Target → List Bool
supported_by = supported_in KINDS

-- these kinds, with every family on and every cost 1
unfoldable pub target_table : Target → Table
target_table target = record {
  supported = supported_by target;
  on = replicate family_count true;
  cost = replicate edge_count 1;
}
