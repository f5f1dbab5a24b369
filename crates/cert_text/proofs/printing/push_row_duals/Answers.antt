use Rattle.std.proofs.Common.{◌+◌, ◌++◌, ◌∷◌, ◌∙◌, ap, arith, drop, refl, subst, sym}
use Rattle.std.proofs.Math.ListN.{drop_of_length-le}
use Rattle.std.proofs.lemmas.List.{drop_more}
use Rattle.cert_text.specs.ReadsBack.{RowReads}
use Rattle.cert_text.specs.Text.{ended, row_line}
use Rattle.cert_text.proofs.Printed.{RowsPrinted, none_zipped, rows_all, rows_more, zipped_with_none}
use Rattle.cert_text.proofs.printing.push_row_duals.Goals as goal

pub loop-i-init : goal.loop-i-init
loop-i-init c =
    subst (λ rows. RowsPrinted c.args.rows.now.items c.args.duals.now c.args.text.now.items rows
    c.args.duals.now c.args.text.now.items) (sym c.iter-row-items.ensures.items)
    (record { written = refl; reads = λ all. all })

pub loop-i-preserved : goal.loop-i-preserved
loop-i-preserved c =
    let i = c.loop-i.i in
    let duals = c.args.duals.now in
    let own = c.index-duals-i.result in
    rows_more c.loop-i.row-iterator c.next.new.self (drop i duals) (drop (i + 1) duals)
    c.in-Some.row.now own c.loop-i.text.items c.push_row.new.text.items c.loop-i.invariant
    c.in-Some.ensures.steps
    (drop_more duals i own (omega arith) ∙ ap (λ y. y ∷ drop (i + 1) duals)
    (sym c.index-duals-i.is))
    (c.in_ok-push_row.ensures.value ∙ ap (λ qs. c.loop-i.text.items
    ++ ended (row_line (c.in-Some.row.now, qs))) c.as_slice.ensures)
    (subst (λ qs. RowReads (c.in-Some.row.now, qs)) c.as_slice.ensures
    c.in_ok-push_row.ensures.reads)

pub returns-then-i-duals-clause-reads : goal.returns-then-i-duals-clause-reads
returns-then-i-duals-clause-reads c =
    let left = drop c.loop-i.i c.args.duals.now in
    (rows_all c.loop-i.row-iterator left c.loop-i.text.items c.loop-i.invariant
    (zipped_with_none c.loop-i.row-iterator left (drop_of_length-le c.args.duals.now
    (omega arith)))).1

pub returns-clause-reads : goal.returns-clause-reads
returns-clause-reads c =
    let left = drop c.loop-i.i c.args.duals.now in
    (rows_all c.loop-i.row-iterator left c.loop-i.text.items c.loop-i.invariant
    (none_zipped c.loop-i.row-iterator left c.in-None.ensures.steps.0)).1

pub returns-then-i-duals-clause-value : goal.returns-then-i-duals-clause-value
returns-then-i-duals-clause-value c =
    let left = drop c.loop-i.i c.args.duals.now in
    (rows_all c.loop-i.row-iterator left c.loop-i.text.items c.loop-i.invariant
    (zipped_with_none c.loop-i.row-iterator left (drop_of_length-le c.args.duals.now
    (omega arith)))).0

pub returns-clause-value : goal.returns-clause-value
returns-clause-value c =
    let left = drop c.loop-i.i c.args.duals.now in
    (rows_all c.loop-i.row-iterator left c.loop-i.text.items c.loop-i.invariant
    (none_zipped c.loop-i.row-iterator left c.in-None.ensures.steps.0)).0
