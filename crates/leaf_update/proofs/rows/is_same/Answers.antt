use Rattle.std.specs.FinMap as finite
use Rattle.std.proofs.Common.{sym}
use Rattle.leaf_update.specs.Puts.{rows_in}
use Rattle.leaf_model.specs.ReadThrough.{read_row}
use Rattle.leaf_update.proofs.rows.is_same.Goals as goal
use Rattle.leaf_update.proofs.RowSteps.{found_row, matched}
use Rattle.leaf_update.proofs.SameLaws.{row_read}

pub returns : goal.returns
returns c =
    let m = c.args.map.now in
    let s = c.args.solver.now.leaves in
    let at = c.args.at.now in
    let held = c.in-Some.held.now in
    let there = sym c.in-Some.ensures in
    matched c.same_row.result (read_row m.vars.indices held)
    (read_row m.vars.indices c.args.row.now) (finite.get (rows_in m s) at)
    (found_row m s at c.args.i held c.requires.here there)
    (row_read m.vars.indices c.var_at-one_to_one.ensures.one_to_one held c.args.row.now
    (c.requires.named.each_row c.args.i held there) c.requires.names c.same_row.result
    c.same_row.ensures)
