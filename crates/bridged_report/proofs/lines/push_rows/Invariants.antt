use Rattle.std.proofs.Common.{◌≡◌, ◌++◌, flat_map, drop}
use Rattle.bridged_report.specs.Indexed.{row_line_in}
use Rattle.bridged_report.proofs.lines.push_rows.Given as goal

-- with those that are left it is all of them
abbrev pub invariant-loop-entry : goal.invariant-loop-entry
invariant-loop-entry l =
    l.draft ++ flat_map (λ e. (row_line_in l.model.model l.places.vars.indices l.solver.leaves e).1)
    (drop l.entry-index l.rows) ≡ l.fn.draft ++ flat_map
    (λ e. (row_line_in l.model.model l.places.vars.indices l.solver.leaves e).1) l.fn.rows
