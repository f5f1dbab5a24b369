use Rattle.std.proofs.Common.{◌++◌, drop, map}
use Rattle.bridged_report.specs.Indexed.{row_line_in, variable_line_in}
use Rattle.bridged_report.specs.Lines.{in_order, joined}
use Rattle.bridged_report.proofs.InOrder.{AreLeft}
use Rattle.bridged_report.proofs.lines.push_leaves.Given as goal

-- what is left makes all, behind what stands there
abbrev pub invariant-loop-entry : goal.invariant-loop-entry
invariant-loop-entry l =
    let variable = variable_line_in l.model.model l.places.vars.indices l.solver.leaves in
    let row = row_line_in l.model.model l.places.vars.indices l.solver.leaves in
    AreLeft (λ e. (variable e).1) (λ e. (row e).1) l.draft
    (l.fn.draft ++ joined (in_order (map variable l.fn.variables ++ map row l.fn.rows)))
    (drop l.entry-index l.variables) l.left
