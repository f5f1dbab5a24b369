use Rattle.std_form.specs.Borrowed.{row_in}
use Rattle.std_form.specs.Indexed.{leaf_at, leaves_at}
use Rattle.std_form.proofs.ListSteps.{borrowed_more}
use Rattle.std_form.proofs.leaves.rows.Goals as goal

pub loop-entry-preserved : goal.loop-entry-preserved
loop-entry-preserved c =
    let rows = c.args.solver.now.leaves.rows in
    borrowed_more (leaf_at rows) c.loop-entry.entry-iterator c.next.new.self c.in-Some.entry.now
    c.in-Some.ensures.steps (leaves_at c.args.places.now.rows.indices rows) row_in
    c.loop-entry.rows.items c.push_some.new.items.items c.row_at.result
    c.loop-entry.invariant c.row_at.ensures c.in_ok-push_some.ensures
