use Rattle.std.proofs.Common.{Err, Ok}
use Rattle.std.proofs.lemmas.List.Sorted.{searched}
use Rattle.sparse_board.specs.Numbers.{row_columns}
use Rattle.sparse_board.proofs.RowSteps.{not_falling, number_found, number_not_found}
use Rattle.sparse_board.proofs.sparse_row.SparseRow.number.Goals as goal

pub returns-in-Ok : goal.returns-in-Ok
returns-in-Ok c =
    let row = c.args.self.now in
    let found = searched (row_columns row) c.args.column (Ok c.in-Ok.place) c.in-Ok.ensures.position
    (not_falling row) in
    number_found row c.in-Ok.place c.args.column c.index.result.now found.0 found.1 c.index.ensures

pub returns-in-Err : goal.returns-in-Err
returns-in-Err c =
    let row = c.args.self.now in
    let place = searched (row_columns row) c.args.column (Err c.in-Err.field-0)
    c.in-Err.ensures.position (not_falling row) in
    number_not_found row c.in-Err.field-0 c.args.column c.zero.result place.1 place.2 c.zero.ensures
