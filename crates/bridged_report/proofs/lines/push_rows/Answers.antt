use Rattle.std.proofs.Common.{◌∙◌, ◌++◌, ap, sym}
use Rattle.std.proofs.lemmas.List.{at_drop_more, at_drop_all}
use Rattle.std.proofs.lemmas.List.Folds.{flat_map-map}
use Rattle.bridged_report.specs.Indexed.{row_line_in}
use Rattle.bridged_report.proofs.Pushes.{pushed_more, pushed_all}
use Rattle.bridged_report.proofs.lines.push_rows.Goals as goal

pub loop-entry-preserved : goal.loop-entry-preserved
loop-entry-preserved c =
    let line = row_line_in c.args.model.now.model c.args.places.now.vars.indices
    c.args.solver.now.leaves in
    pushed_more (λ e. (line e).1) c.loop-entry.draft _ _ c.entry-item.result c.loop-entry.invariant
    (at_drop_more (λ es. es) c.args.rows.now c.loop-entry.entry-index c.entry-item.result
    c.loop-entry-test.true ∙ cc) c.in_ok-push_row.ensures

pub returns : goal.returns
returns c =
    let line = row_line_in c.args.model.now.model c.args.places.now.vars.indices
    c.args.solver.now.leaves in
    pushed_all (λ e. (line e).1) c.loop-entry.draft c.loop-entry.invariant
    (at_drop_all (λ es. es) c.args.rows.now c.loop-entry.entry-index c.loop-entry-test.false)
    ∙ ap (λ t. c.args.draft.now ++ t) (sym (flat_map-map (λ l. l.1) line c.args.rows.now))
