use Rattle.std.proofs.Common.{Err, Ok}
use Rattle.std.proofs.lemmas.List.Sorted.{searched}
use Rattle.sparse_board.specs.Numbers.{row_columns}
use Rattle.sparse_board.proofs.RowSteps.{not_falling, split_found, split_not_found}
use Rattle.sparse_board.proofs.sparse_row.SparseRow.count_below.Goals as goal

pub returns-in-Ok-clause-split : goal.returns-in-Ok-clause-split
returns-in-Ok-clause-split c =
    let row = c.args.self.now in
    let found = searched (row_columns row) c.args.column (Ok c.in-Ok.place) c.in-Ok.ensures.position
    (not_falling row) in
    split_found row c.in-Ok.place c.args.column found.0 found.1

pub returns-in-Err-clause-split : goal.returns-in-Err-clause-split
returns-in-Err-clause-split c =
    let row = c.args.self.now in
    let place = searched (row_columns row) c.args.column (Err c.in-Err.place)
    c.in-Err.ensures.position (not_falling row) in
    split_not_found row c.in-Err.place c.args.column place.0 place.1 place.2
