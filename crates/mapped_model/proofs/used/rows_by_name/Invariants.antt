use Rattle.std.specs.Option.{option_copied}
use Rattle.std.specs.Prelude.{bytes_eq}
use Rattle.indexmap.specs.IndexMap.{get}
use Rattle.mapped_model.proofs.Filling.{IsFilling}
use Rattle.mapped_model.proofs.used.rows_by_name.Given as goal

abbrev pub invariant-loop-row : goal.invariant-loop-row
invariant-loop-row l =
    IsFilling l.rows.items l.row-iterator (λ name. option_copied (get bytes_eq l.found name))
