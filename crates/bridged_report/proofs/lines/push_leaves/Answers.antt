use Rattle.std.proofs.Common.{◌∙◌}
use Rattle.std.proofs.lemmas.Result.{on_ok_weaker}
use Rattle.bridged_report.specs.Indexed.{row_line_in, variable_line_in}
use Rattle.bridged_report.proofs.InOrder.{less_left, rows_left}
use Rattle.bridged_report.proofs.lines.push_leaves.Goals as goal

pub loop-entry-preserved : goal.loop-entry-preserved
loop-entry-preserved c =
    let variable = variable_line_in c.args.model.now.model c.args.places.now.vars.indices
    c.args.solver.now.leaves in
    let row = row_line_in c.args.model.now.model c.args.places.now.vars.indices
    c.args.solver.now.leaves in
    less_left (λ e. (variable e).1) (λ e. (row e).1) c.args.variables.now c.loop-entry.entry-index
    c.entry-item.result c.loop-entry.left.now c.split_at.result.0.now c.split_at.result.1.now
    c.count_before.result c.loop-entry.draft c.push_rows.new.draft c.push_variable.new.draft
    c.requires.variables_rise (c.loop-entry-test.true, c.entry-item.is) c.loop-entry.invariant
    c.count_before.ensures.value c.split_at.ensures.front c.split_at.ensures.back
    c.in_ok-push_rows.ensures c.in_ok-push_variable.ensures

pub returns : goal.returns
returns c =
    let variable = variable_line_in c.args.model.now.model c.args.places.now.vars.indices
    c.args.solver.now.leaves in
    let row = row_line_in c.args.model.now.model c.args.places.now.vars.indices
    c.args.solver.now.leaves in
    on_ok_weaker c.push_rows-2.result
    (λ e. e ∙ rows_left (λ e. (variable e).1) (λ e. (row e).1) c.args.variables.now
    c.loop-entry.left.now c.loop-entry.entry-index c.loop-entry.draft c.loop-entry-test.false
    c.loop-entry.invariant)
    c.push_rows-2.ensures
