use Rattle.std.proofs.Common.{◌≡◌, ◌++◌, map}
use Rattle.std.specs.Prelude.{All}
use Rattle.serde_json.specs.View.{view}
use Rattle.mof_write.specs.Written.{naming, row_data}
use Rattle.mof_write.specs.Sayable.{IsSayableRow}
use Rattle.mof_write.proofs.constraints.put_rows.Given as goal

abbrev pub invariant-loop-row : goal.invariant-loop-row
invariant-loop-row l = record {
  made : map view l.values.items ++ map (row_data (naming l.model.model)) l.row-iterator
      ≡ map view l.initial.values.items ++ map (row_data (naming l.model.model)) l.rows.items;
  fits : All IsSayableRow l.row-iterator → All IsSayableRow l.rows.items;
}
