use Rattle.std.proofs.Common.{drop}
use Rattle.cert_text.proofs.Printed.{RowsPrinted}
use Rattle.cert_text.proofs.printing.push_row_duals.Given as goal

abbrev pub invariant-loop-i : goal.invariant-loop-i
invariant-loop-i l =
    RowsPrinted l.rows.items l.duals l.fn.text.items l.row-iterator
    (drop l.i l.duals) l.text.items
