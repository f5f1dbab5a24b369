use Rattle.std.proofs.Common.{◌+◌, ◌∙◌, ap, arith, length, refl, subst, sym}
use Rattle.std.proofs.lemmas.List.{length-set, with_items_is}
use Rattle.std.specs.Vec.{with_item, with_items}
use Rattle.sparse_board.proofs.TestSteps.{barred}
use Rattle.tableau_core.specs.BoardNumbers.{IsSettled, numbers_fit}
use Rattle.sparse_board.specs.Mixed.{width_of}
use Rattle.sparse_board.specs.Rows.{AreSparseRowsWide, now_at, number_in_row, numbers_in}
use Rattle.sparse_board.specs.Marking.{AreNumbersMarked}
use Rattle.sparse_board.specs.Kept.{columns_of}
use Rattle.tableau_core.specs.KeptLaws.{refused}
use Rattle.sparse_board.proofs.MarkingSteps.{sizes_more}
use Rattle.sparse_board.proofs.BoardSteps.{column_within, kept_after, marked_same, numbers_same, pivoted_all, read_entry, ready_same, tests_same, view_same, wide_after}
use Rattle.sparse_board.proofs.board.BoardTableau.pivot.Goals as goal
use Rattle.sparse_board.proofs.board.BoardTableau.pivot.Goals.{After-prepare_pivot}

pub prepare_pivot-requires-clause-nonzero : goal.prepare_pivot-requires-clause-nonzero
prepare_pivot-requires-clause-nonzero c = λ e.
    c.requires.nonzero (sym (read_entry c.self.inside c.args.self.now c.self.view_is c.args.r
    c.args.q c.requires.column) ∙ ap (λ l. number_in_row l c.args.r c.args.q)
    (sym c.deref_mut.ensures.value) ∙ e)

pub prepare_pivot-requires-clause-column : goal.prepare_pivot-requires-clause-column
prepare_pivot-requires-clause-column c =
    let within = column_within c.self.inside c.args.self.now c.args.q c.self.view_is
    c.requires.column in
    omega (arith, within, c.self.invariant.spare)

pub prepare_pivot-requires-clause-wide : goal.prepare_pivot-requires-clause-wide
prepare_pivot-requires-clause-wide c =
    subst (λ n. AreSparseRowsWide n c.deref_mut.result.now) (sym c.self.invariant.spare)
    (subst (AreSparseRowsWide (columns_of c.self.inside + 1)) (sym c.deref_mut.ensures.value)
    c.self.invariant.wide)

pub prepare_pivot-requires-clause-columns : goal.prepare_pivot-requires-clause-columns
prepare_pivot-requires-clause-columns c =
    c.self.invariant.mark_columns ∙ sym c.self.invariant.spare

pub prepare_pivot-requires-clause-count : goal.prepare_pivot-requires-clause-count
prepare_pivot-requires-clause-count c =
    c.self.invariant.mark_rows ∙ ap length (sym c.deref_mut.ensures.value)

pub prepare_pivot-requires-clause-room : goal.prepare_pivot-requires-clause-room
prepare_pivot-requires-clause-room c =
    c.self.invariant.changes ∙ ap length (sym c.deref_mut.ensures.value)

pub prepare_pivot-requires-clause-marked : goal.prepare_pivot-requires-clause-marked
prepare_pivot-requires-clause-marked c =
    let a = c.self.inside in
    subst (λ n. AreNumbersMarked n a.marks c.deref_mut.result.now) (sym c.self.invariant.spare)
    (subst (AreNumbersMarked (columns_of a + 1) a.marks) (sym c.deref_mut.ensures.value)
    c.self.invariant.marked)

-- the marks that are left, of the rows as they stood
left_marked : (c : After-prepare_pivot)
    → AreNumbersMarked (columns_of c.self.inside + 1) c.prepare_pivot.new.marks c.self.inside.rows.items
left_marked c =
    subst (AreNumbersMarked (columns_of c.self.inside + 1) c.prepare_pivot.new.marks)
    c.deref_mut.ensures.value
    (subst (λ n. AreNumbersMarked n c.prepare_pivot.new.marks c.deref_mut.result.now)
    c.self.invariant.spare c.prepare_pivot.ensures.marked)

pub returns-in_err-prepare_pivot-clause-overflow : goal.returns-in_err-prepare_pivot-clause-overflow
returns-in_err-prepare_pivot-clause-overflow c = λ of.
    let a = c.self.inside in
    sym ((λ k. numbers_fit (c.self.invariant.second k) c.args.r c.args.q a.costs.in_first
    (numbers_in (c.deref_mut.ensures.value k) a.costs.first.now a.costs.second.now))
    ∙ tests_same a c.args.self.now c.args.r c.args.q c.self.view_is c.requires.row c.requires.column)
    ∙ barred c.from_residual.result _ _ c.from_residual.ensures.1
    c.in_err-prepare_pivot.ensures.fits of

pub returns-clause-fits : goal.returns-clause-fits
returns-clause-fits c =
    let a = c.self.inside in
    sym ((λ k. numbers_fit (c.self.invariant.second k) c.args.r c.args.q a.costs.in_first
    (numbers_in (c.deref_mut.ensures.value k) a.costs.first.now a.costs.second.now))
    ∙ tests_same a c.args.self.now c.args.r c.args.q c.self.view_is c.requires.row c.requires.column)
    ∙ c.in_ok-prepare_pivot.ensures.fits

pub invariant_of-self : goal.invariant_of-self
invariant_of-self c =
    let a = c.self.inside in
    let rows = with_items_is a.rows c.prepare_pivot.new.rows (c.prepare_pivot.auto.rows
    ∙ c.deref_mut.ensures.len) in
    let count = ap length rows ∙ c.prepare_pivot.auto.rows ∙ ap length c.deref_mut.ensures.value in
    kept_after a _ refl count c.self.invariant
    (wide_after a.rows.items _ (columns_of a + 1) count (λ i. ap (λ l. now_at l i) rows
    ∙ c.prepare_pivot.ensures.rows_stay i ∙ ap (λ l. now_at l i) c.deref_mut.ensures.value)
    c.self.invariant.wide)
    (ap width_of c.prepare_pivot.ensures.first_stays)
    (ap width_of c.prepare_pivot.ensures.second_stays) c.prepare_pivot.ensures.step_wide refl
    c.prepare_pivot.ensures.room c.prepare_pivot.ensures.sizes
    (marked_same (columns_of a + 1) c.prepare_pivot.new.marks a.rows.items _ count
    (λ i. ap (λ l. now_at l i) rows ∙ c.prepare_pivot.ensures.rows_stay i
    ∙ ap (λ l. now_at l i) c.deref_mut.ensures.value)
    (left_marked (goal.at.invariant_of-self c).After-prepare_pivot))

pub returns-in_err-prepare_pivot-clause-board : goal.returns-in_err-prepare_pivot-clause-board
returns-in_err-prepare_pivot-clause-board c =
    let a = c.self.inside in
    let rows = with_items_is a.rows c.prepare_pivot.new.rows (c.prepare_pivot.auto.rows
    ∙ c.deref_mut.ensures.len) in
    refused c.from_residual.result _ _ c.from_residual.ensures.0
    (view_same a (record {
      reals = a.reals;
      rows = with_items a.rows c.prepare_pivot.new.rows;
      costs = c.prepare_pivot.new.costs;
      step = c.prepare_pivot.new.step;
      marks = c.prepare_pivot.new.marks;
      changes = c.prepare_pivot.new.changes;
      basis = a.basis;
    }) refl c.prepare_pivot.ensures.use_stays (ap length rows ∙ c.prepare_pivot.auto.rows
    ∙ ap length c.deref_mut.ensures.value) refl
    (λ i. ap (λ l. now_at l i) rows ∙ c.prepare_pivot.ensures.rows_stay i
    ∙ ap (λ l. now_at l i) c.deref_mut.ensures.value)
    c.prepare_pivot.ensures.first_stays c.prepare_pivot.ensures.second_stays ∙ c.self.view_is)

pub settle_pivot-requires-clause-wide : goal.settle_pivot-requires-clause-wide
settle_pivot-requires-clause-wide c =
    let a = c.self.inside in
    let rows = c.deref_mut-2.ensures.value ∙ with_items_is a.rows c.prepare_pivot.new.rows
    (c.prepare_pivot.auto.rows ∙ c.deref_mut.ensures.len) in
    subst (λ n. AreSparseRowsWide n c.deref_mut-2.result.now) (sym (c.prepare_pivot.ensures.step_wide
    ∙ c.self.invariant.spare))
    (wide_after a.rows.items c.deref_mut-2.result.now (columns_of a + 1) (ap length rows
    ∙ c.prepare_pivot.auto.rows ∙ ap length c.deref_mut.ensures.value)
    (λ i. ap (λ l. now_at l i) rows ∙ c.prepare_pivot.ensures.rows_stay i
    ∙ ap (λ l. now_at l i) c.deref_mut.ensures.value) c.self.invariant.wide)

pub settle_pivot-requires-clause-columns : goal.settle_pivot-requires-clause-columns
settle_pivot-requires-clause-columns c =
    c.prepare_pivot.ensures.sizes.columns ∙ c.self.invariant.mark_columns
    ∙ sym (c.prepare_pivot.ensures.step_wide ∙ c.self.invariant.spare)

pub settle_pivot-requires-clause-count : goal.settle_pivot-requires-clause-count
settle_pivot-requires-clause-count c =
    let a = c.self.inside in
    let rows = c.deref_mut-2.ensures.value ∙ with_items_is a.rows c.prepare_pivot.new.rows
    (c.prepare_pivot.auto.rows ∙ c.deref_mut.ensures.len) in
    c.prepare_pivot.ensures.sizes.rows ∙ c.self.invariant.mark_rows
    ∙ sym (ap length rows ∙ c.prepare_pivot.auto.rows ∙ ap length c.deref_mut.ensures.value)

pub settle_pivot-requires-clause-marked : goal.settle_pivot-requires-clause-marked
settle_pivot-requires-clause-marked c =
    let a = c.self.inside in
    let rows = c.deref_mut-2.ensures.value ∙ with_items_is a.rows c.prepare_pivot.new.rows
    (c.prepare_pivot.auto.rows ∙ c.deref_mut.ensures.len) in
    subst (λ n. AreNumbersMarked n c.prepare_pivot.new.marks c.deref_mut-2.result.now)
    (sym (c.prepare_pivot.ensures.step_wide ∙ c.self.invariant.spare))
    (marked_same (columns_of a + 1) c.prepare_pivot.new.marks a.rows.items
    c.deref_mut-2.result.now
    (ap length rows ∙ c.prepare_pivot.auto.rows ∙ ap length c.deref_mut.ensures.value)
    (λ i. ap (λ l. now_at l i) rows ∙ c.prepare_pivot.ensures.rows_stay i
    ∙ ap (λ l. now_at l i) c.deref_mut.ensures.value)
    (left_marked (goal.at.settle_pivot-requires-clause-marked c).After-prepare_pivot))

pub settle_pivot-requires-clause-ready : goal.settle_pivot-requires-clause-ready
settle_pivot-requires-clause-ready c =
    let a = c.self.inside in
    let prepared = c.prepare_pivot.new in
    let rows = c.deref_mut-2.ensures.value ∙ with_items_is a.rows prepared.rows
    (c.prepare_pivot.auto.rows ∙ c.deref_mut.ensures.len) in
    ready_same c.deref_mut-2.result.now prepared.rows c.args.r c.args.q
    prepared.changes.rows.items prepared.changes.count prepared.costs prepared.step rows c.in_ok-prepare_pivot.ensures.ok

pub invariant_of-self-2 : goal.invariant_of-self-2
invariant_of-self-2 c =
    let a = c.self.inside in
    let prepared = c.prepare_pivot.new in
    let settled = c.settle_pivot.new in
    let wide = c.prepare_pivot.ensures.step_wide ∙ c.self.invariant.spare in
    let rows = c.deref_mut-2.ensures.value ∙ with_items_is a.rows prepared.rows
    (c.prepare_pivot.auto.rows ∙ c.deref_mut.ensures.len) in
    let last = with_items_is (with_items a.rows prepared.rows) settled.rows
    (c.settle_pivot.auto.rows ∙ c.deref_mut-2.ensures.len) in
    kept_after a _ refl (ap length last ∙ c.settle_pivot.auto.rows ∙ ap length rows
    ∙ c.prepare_pivot.auto.rows ∙ ap length c.deref_mut.ensures.value) c.self.invariant
    (subst (AreSparseRowsWide (columns_of a + 1)) (sym last)
    (subst (λ n. AreSparseRowsWide n settled.rows) wide c.settle_pivot.ensures.wide))
    (c.settle_pivot.ensures.first_wide ∙ ap width_of c.prepare_pivot.ensures.first_stays)
    (c.settle_pivot.ensures.second_wide ∙ ap width_of c.prepare_pivot.ensures.second_stays)
    (c.settle_pivot.ensures.step_wide ∙ c.prepare_pivot.ensures.step_wide)
    (length-set a.basis.items c.args.r c.args.q) c.prepare_pivot.ensures.room
    (sizes_more a.marks prepared.marks settled.marks c.prepare_pivot.ensures.sizes
    c.settle_pivot.ensures.sizes)
    (subst (AreNumbersMarked (columns_of a + 1) settled.marks) (sym last)
    (subst (λ n. AreNumbersMarked n settled.marks settled.rows) wide c.settle_pivot.ensures.marked))

pub returns-clause-board : goal.returns-clause-board
returns-clause-board c =
    let a = c.self.inside in
    let prepared = c.prepare_pivot.new in
    let settled = c.settle_pivot.new in
    let rows = c.deref_mut-2.ensures.value ∙ with_items_is a.rows prepared.rows
    (c.prepare_pivot.auto.rows ∙ c.deref_mut.ensures.len) in
    let last = with_items_is (with_items a.rows prepared.rows) settled.rows
    (c.settle_pivot.auto.rows ∙ c.deref_mut-2.ensures.len) in
    let count = ap length rows ∙ c.prepare_pivot.auto.rows ∙ ap length c.deref_mut.ensures.value in
    pivoted_all a
    (record {
      reals = a.reals;
      rows = with_items (with_items a.rows prepared.rows) settled.rows;
      costs = settled.costs;
      step = settled.step;
      marks = settled.marks;
      changes = prepared.changes;
      basis = with_item a.basis c.args.r c.args.q;
    })
    refl (ap length last ∙ c.settle_pivot.auto.rows ∙ count)
    c.args.r c.args.q c.args.self.now c.self.view_is c.requires.row c.requires.column
    (c.settle_pivot.ensures.use_stays ∙ c.prepare_pivot.ensures.use_stays) refl
    (numbers_in c.deref_mut-2.result.now prepared.costs.first.now prepared.costs.second.now)
    (numbers_same a c.deref_mut-2.result.now prepared.costs.first.now
    prepared.costs.second.now count
    (λ i. ap (λ l. now_at l i) rows ∙ c.prepare_pivot.ensures.rows_stay i
    ∙ ap (λ l. now_at l i) c.deref_mut.ensures.value)
    c.prepare_pivot.ensures.first_stays c.prepare_pivot.ensures.second_stays)
    (subst (λ u. IsSettled (columns_of a) c.args.r c.args.q u
    (numbers_in c.deref_mut-2.result.now prepared.costs.first.now prepared.costs.second.now)
    (numbers_in (with_items (with_items a.rows prepared.rows) settled.rows).items
    settled.costs.first.now settled.costs.second.now)) c.prepare_pivot.ensures.use_stays
    (subst (λ l. IsSettled (columns_of a) c.args.r c.args.q prepared.costs.in_first
    (numbers_in c.deref_mut-2.result.now prepared.costs.first.now prepared.costs.second.now)
    (numbers_in l settled.costs.first.now settled.costs.second.now)) (sym last)
    (c.settle_pivot.ensures.settled (columns_of a) (c.prepare_pivot.ensures.step_wide
    ∙ c.self.invariant.spare)
    (ap width_of c.prepare_pivot.ensures.first_stays ∙ c.self.invariant.first)
    (ap width_of c.prepare_pivot.ensures.second_stays ∙ c.self.invariant.second))))
