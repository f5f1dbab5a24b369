use Rattle.std.specs.Prelude.{length}
use Rattle.equality_form.specs.Columns.{parts_among}
use Rattle.std_form.proofs.Counts.{cells_up}
use Rattle.std_form.proofs.cells.cell_count.Goals as goal

pub returns : goal.returns
returns c =
    cells_up (length (parts_among c.args.variables.now)) c.args.slacks c.args.equations
    18446744073709551615 c.part_count.result c.saturating_add-columns.result
    c.saturating_add.result c.saturating_add-2.result c.saturating_mul.result
    c.part_count.ensures c.saturating_add-columns.ensures c.saturating_add.ensures
    c.saturating_add-2.ensures c.saturating_mul.ensures
