use Rattle.std.proofs.Common.{arith, sym}
use Rattle.sparse_board.specs.Numbers.{row_columns}
use Rattle.sparse_board.proofs.NumberLemmas.{few_below}
use Rattle.sparse_board.proofs.RowSteps.{columns_long, pushed_adds, pushed_columns, pushed_sparse, pushed_values, pushed_within}
use Rattle.sparse_board.proofs.sparse_row.SparseRow.push.Goals as goal

pub push_reserved-requires : goal.push_reserved-requires
push_reserved-requires c =
    let row = c.args.self.now in
    omega (
      arith,
      few_below (row_columns row) c.args.column row.sparse.rising c.requires.above,
      c.requires.within,
      columns_long row,
    )

pub invariant_of-self : goal.invariant_of-self
invariant_of-self c =
    let row = c.args.self.now in
    let columns = pushed_columns row.entries.items _ _ c.push_reserved.ensures.items in
    let values = pushed_values row.entries.items _ _ c.push_reserved.ensures.items in
    record {
      sparse = pushed_sparse row c.args.column c.args.value c.requires.above _ _ columns values
          c.requires.other c.requires.fits;
      within = pushed_within row c.args.column c.args.value c.requires.above _ _ columns
          (sym c.push_reserved.ensures.capacity) (omega (
            arith,
            c.requires.within,
            c.push_reserved.ensures.capacity,
          ));
    }

pub returns : goal.returns
returns c =
    let row = c.args.self.now in
    pushed_adds row c.args.column c.args.value c.requires.above _
    (pushed_columns row.entries.items _ _ c.push_reserved.ensures.items)
    (pushed_values row.entries.items _ _ c.push_reserved.ensures.items)
    c.push_reserved.ensures.capacity
