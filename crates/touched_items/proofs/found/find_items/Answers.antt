use Rattle.std.proofs.Common.{◌≤◌, ◌+◌, arith, subst}
use Rattle.std.specs.Prelude.{cond, count_by}
use Rattle.std.specs.List.{list_any}
use Rattle.touched_items.specs.Search.{is_objective, is_row}
use Rattle.touched_items.proofs.Loops.{reads_counted}
use Rattle.touched_items.proofs.found.find_items.Goals as goal

pub returns-clause-reads : goal.returns-clause-reads
returns-clause-reads c =
    let ats = c.in_order-addresses.result.items in
    let rows = subst (λ xs. c.read_rows.new.reading.reads
    ≤ c.args.reading.now.reads + count_by is_row xs) c.deref.ensures.value
    c.read_rows.ensures.reads in
    let objective = subst (λ xs. c.read_objective-objective.new.reading.reads
    ≤ c.read_rows.new.reading.reads + cond (list_any is_objective xs) 1 0) c.deref-2.ensures.value
    c.read_objective-objective.ensures.reads in
    omega (arith, rows, objective, reads_counted ats)
