use Rattle.std.proofs.Common.{◌≡◌}
use Rattle.cert_text.specs.Reading.{duals_of, row_duals_of}
use Rattle.cert_text.proofs.EachLine.{line_left}
use Rattle.cert_text.proofs.reading.read_row_duals.Given as goal

abbrev pub invariant-loop-row : goal.invariant-loop-row
invariant-loop-row l =
    line_left duals_of l.duals.items l.row-iterator l.lines
    ≡ row_duals_of l.rows.items l.fn.lines
