use Rattle.std.proofs.Common.{ap, slice_index_or, sym, ◌∙◌}
use Rattle.sparse_board.specs.declared.entry.Entry.{Entry}
use Rattle.sparse_board.specs.Sparse.{values_in}
use Rattle.sparse_board.proofs.NarrowingSteps.{denominator_more, denominator_none}
use Rattle.sparse_board.proofs.RowSteps.{value_of}
use Rattle.sparse_board.proofs.narrowing.denominator_of.Goals as goal

pub loop-k-init : goal.loop-k-init
loop-k-init c = denominator_none (values_in c.args.entries.now)

pub loop-k-preserved : goal.loop-k-preserved
loop-k-preserved c =
    let entries = c.args.entries.now in
    let item = c.index-entries-k.result in
    denominator_more (values_in entries) c.loop-k.k c.loop-k.den c.in_ok-den.den
    (slice_index_or entries c.loop-k.k item).value c.loop-k.invariant
    (ap (λ (e : Entry). e.value) (sym c.index-entries-k.is)
    ∙ value_of entries c.loop-k.k item c.loop-k-test.true c.index-entries-k.is)
    c.in_ok-den.ensures
