use Rattle.std.specs.Prelude.{take}
use Rattle.std.proofs.Common.{length, sym, ap, subst, ◌+◌, ◌∙◌, refl}
use Rattle.std.proofs.lemmas.List.{with_items_is}
use Rattle.std.specs.Vec.{with_item, with_items}
use Rattle.std.proofs.lemmas.List.{length-set}
use Rattle.tableau_core.specs.Places.{CoversNonzeros}
use Rattle.tableau_core.specs.Row.{AllFit}
use Rattle.tableau_core.specs.Rows.{AreWide, now_at, numbers_in}
use Rattle.tableau_core.specs.BoardNumbers.{IsSettled, numbers_fit}
use Rattle.tableau_core.specs.Kept.{width_of}
use Rattle.tableau_core.specs.Pivoting.{IsReady}
use Rattle.tableau_core.specs.KeptLaws.{refused}
use Rattle.tableau_core.proofs.BoardSteps.{kept_after, numbers_same, pivoted_all, tests_same, view_same, wide_after}
use Rattle.tableau_core.proofs.dense_board.DenseBoardTableau.pivot.Goals as goal

pub returns-in_err-used-clause-overflow : goal.returns-in_err-used-clause-overflow
returns-in_err-used-clause-overflow c =
    let a = c.self.inside in λ _.
    sym (c.in_err-used.ensures.fits
    ∙ (λ k. numbers_fit (c.self.invariant.second k) c.args.r c.args.q a.costs.in_first
    (numbers_in (c.deref_mut.ensures.value k) a.costs.first.now.items a.costs.second.now.items))
    ∙ tests_same a c.args.self.now c.args.r c.args.q c.self.view_is c.requires.row c.requires.column)

pub returns-clause-fits : goal.returns-clause-fits
returns-clause-fits c =
    let a = c.self.inside in
    sym (c.in_ok-used.ensures.fits
    ∙ (λ k. numbers_fit (c.self.invariant.second k) c.args.r c.args.q a.costs.in_first
    (numbers_in (c.deref_mut.ensures.value k) a.costs.first.now.items a.costs.second.now.items))
    ∙ tests_same a c.args.self.now c.args.r c.args.q c.self.view_is c.requires.row c.requires.column)

pub invariant_of-self : goal.invariant_of-self
invariant_of-self c =
    let a = c.self.inside in
    let rows = with_items_is a.rows c.prepare_pivot.new.rows (c.prepare_pivot.auto.rows
    ∙ c.deref_mut.ensures.len) in
    let step = with_items_is a.step c.prepare_pivot.new.step (c.prepare_pivot.auto.step
    ∙ c.deref_mut-2.ensures.len) in
    let count = ap length rows ∙ c.prepare_pivot.auto.rows ∙ ap length c.deref_mut.ensures.value in
    kept_after a _ refl count c.self.invariant
    (wide_after a.rows.items _ (width_of a + 1) count (λ i. ap (λ l. now_at l i) rows
    ∙ c.prepare_pivot.ensures.rows_stay i ∙ ap (λ l. now_at l i) c.deref_mut.ensures.value)
    c.self.invariant.wide)
    (ap length c.prepare_pivot.ensures.first_stays) (ap length c.prepare_pivot.ensures.second_stays)
    (ap length step ∙ c.prepare_pivot.auto.step ∙ ap length c.deref_mut-2.ensures.value
    ∙ c.self.invariant.spare)
    (subst AllFit (sym step) c.prepare_pivot.ensures.step_fits)
    (ap length (with_items_is a.places c.prepare_pivot.new.places (c.prepare_pivot.auto.places
    ∙ c.deref_mut-3.ensures.len)) ∙ c.prepare_pivot.auto.places
    ∙ ap length c.deref_mut-3.ensures.value)
    refl

pub returns-in_err-used-clause-board : goal.returns-in_err-used-clause-board
returns-in_err-used-clause-board c =
    let rows = with_items_is c.self.inside.rows c.prepare_pivot.new.rows (c.prepare_pivot.auto.rows
    ∙ c.deref_mut.ensures.len) in
    refused c.from_residual.result _ _ c.from_residual.ensures.0
    (view_same c.self.inside (record {
      reals = c.self.inside.reals;
      rows = with_items c.self.inside.rows c.prepare_pivot.new.rows;
      costs = c.prepare_pivot.new.costs;
      step = with_items c.self.inside.step
          c.prepare_pivot.new.step;
      places = with_items c.self.inside.places
          c.prepare_pivot.new.places;
      basis = c.self.inside.basis;
    }) refl c.prepare_pivot.ensures.use_stays (ap length rows
    ∙ c.prepare_pivot.auto.rows ∙ ap length c.deref_mut.ensures.value) refl
    (λ i. ap (λ l. now_at l i) rows ∙ c.prepare_pivot.ensures.rows_stay i
    ∙ ap (λ l. now_at l i) c.deref_mut.ensures.value)
    c.prepare_pivot.ensures.first_stays c.prepare_pivot.ensures.second_stays ∙ c.self.view_is)

pub settle_pivot-requires-clause-wide : goal.settle_pivot-requires-clause-wide
settle_pivot-requires-clause-wide c =
    let a = c.self.inside in
    let rows = c.deref_mut-4.ensures.value ∙ with_items_is a.rows c.prepare_pivot.new.rows
    (c.prepare_pivot.auto.rows ∙ c.deref_mut.ensures.len) in
    let step = with_items_is a.step c.prepare_pivot.new.step (c.prepare_pivot.auto.step
    ∙ c.deref_mut-2.ensures.len) in
    subst (λ n. AreWide n c.deref_mut-4.result.now) (sym (ap length step ∙ c.prepare_pivot.auto.step
    ∙ ap length c.deref_mut-2.ensures.value ∙ c.self.invariant.spare))
    (wide_after a.rows.items c.deref_mut-4.result.now (width_of a + 1)
    (ap length rows ∙ c.prepare_pivot.auto.rows ∙ ap length c.deref_mut.ensures.value)
    (λ i. ap (λ l. now_at l i) rows ∙ c.prepare_pivot.ensures.rows_stay i
    ∙ ap (λ l. now_at l i) c.deref_mut.ensures.value)
    c.self.invariant.wide)

pub settle_pivot-requires-clause-ready : goal.settle_pivot-requires-clause-ready
settle_pivot-requires-clause-ready c =
    let rows = c.deref_mut-4.ensures.value ∙ with_items_is c.self.inside.rows
    c.prepare_pivot.new.rows (c.prepare_pivot.auto.rows ∙ c.deref_mut.ensures.len) in
    let step = with_items_is c.self.inside.step c.prepare_pivot.new.step (c.prepare_pivot.auto.step
    ∙ c.deref_mut-2.ensures.len) in
    subst (λ l. IsReady l c.args.r c.args.q c.prepare_pivot.new.costs
    (with_items c.self.inside.step c.prepare_pivot.new.step).items) (sym rows)
    (subst (IsReady c.prepare_pivot.new.rows c.args.r c.args.q c.prepare_pivot.new.costs)
    (sym step) c.in_ok-used.ensures.ok)

pub settle_pivot-requires-clause-covers : goal.settle_pivot-requires-clause-covers
settle_pivot-requires-clause-covers c =
    let step = with_items_is c.self.inside.step c.prepare_pivot.new.step (c.prepare_pivot.auto.step
    ∙ c.deref_mut-2.ensures.len) in
    let places = c.deref.ensures.value ∙ with_items_is c.self.inside.places
    c.prepare_pivot.new.places (c.prepare_pivot.auto.places ∙ c.deref_mut-3.ensures.len) in
    subst (λ l. CoversNonzeros (take c.in_ok-used.used l)
    (with_items c.self.inside.step c.prepare_pivot.new.step).items) (sym places)
    (subst (CoversNonzeros (take c.in_ok-used.used c.prepare_pivot.new.places))
    (sym step) c.in_ok-used.ensures.covers)

pub invariant_of-self-2 : goal.invariant_of-self-2
invariant_of-self-2 c =
    let a = c.self.inside in
    let rows = with_items_is a.rows c.prepare_pivot.new.rows (c.prepare_pivot.auto.rows
    ∙ c.deref_mut.ensures.len) in
    let step = with_items_is a.step c.prepare_pivot.new.step (c.prepare_pivot.auto.step
    ∙ c.deref_mut-2.ensures.len) in
    let last = with_items_is (with_items a.rows c.prepare_pivot.new.rows) c.settle_pivot.new.rows
    (c.settle_pivot.auto.rows ∙ c.deref_mut-4.ensures.len) in
    let long = ap length step ∙ c.prepare_pivot.auto.step ∙ ap length c.deref_mut-2.ensures.value
    ∙ c.self.invariant.spare in
    kept_after a _ refl
    (ap length last ∙ c.settle_pivot.auto.rows ∙ ap length (c.deref_mut-4.ensures.value ∙ rows)
    ∙ c.prepare_pivot.auto.rows ∙ ap length c.deref_mut.ensures.value)
    c.self.invariant
    (subst (AreWide (width_of a + 1)) (sym last) (subst (λ n. AreWide n c.settle_pivot.new.rows)
    long c.settle_pivot.ensures.wide))
    (c.settle_pivot.ensures.first_long ∙ ap length c.prepare_pivot.ensures.first_stays)
    (c.settle_pivot.ensures.second_long ∙ ap length c.prepare_pivot.ensures.second_stays)
    (c.settle_pivot.ensures.step_long ∙ long) c.settle_pivot.ensures.step_fits
    (ap length (with_items_is a.places c.prepare_pivot.new.places (c.prepare_pivot.auto.places
    ∙ c.deref_mut-3.ensures.len)) ∙ c.prepare_pivot.auto.places
    ∙ ap length c.deref_mut-3.ensures.value)
    (length-set a.basis.items c.args.r c.args.q)

pub returns-clause-board : goal.returns-clause-board
returns-clause-board c =
    let a = c.self.inside in
    let prepared = c.prepare_pivot.new in
    let settled = c.settle_pivot.new in
    let rows = c.deref_mut-4.ensures.value ∙ with_items_is a.rows prepared.rows
    (c.prepare_pivot.auto.rows ∙ c.deref_mut.ensures.len) in
    let last = with_items_is (with_items a.rows prepared.rows) settled.rows
    (c.settle_pivot.auto.rows ∙ c.deref_mut-4.ensures.len) in
    let count = ap length rows ∙ c.prepare_pivot.auto.rows ∙ ap length c.deref_mut.ensures.value in
    pivoted_all a
    (record {
      reals = a.reals;
      rows = with_items (with_items a.rows prepared.rows) settled.rows;
      costs = settled.costs;
      step = settled.step;
      places = with_items a.places prepared.places;
      basis = with_item a.basis c.args.r c.args.q;
    })
    refl (ap length last ∙ c.settle_pivot.auto.rows ∙ count)
    c.args.r c.args.q c.args.self.now c.self.view_is c.requires.row c.requires.column
    (c.settle_pivot.ensures.use_stays ∙ c.prepare_pivot.ensures.use_stays) refl
    (numbers_in c.deref_mut-4.result.now prepared.costs.first.now.items
    prepared.costs.second.now.items)
    (numbers_same a c.deref_mut-4.result.now prepared.costs.first.now.items
    prepared.costs.second.now.items count
    (λ i. ap (λ l. now_at l i) rows ∙ c.prepare_pivot.ensures.rows_stay i
    ∙ ap (λ l. now_at l i) c.deref_mut.ensures.value)
    c.prepare_pivot.ensures.first_stays c.prepare_pivot.ensures.second_stays)
    (length prepared.costs.second.now.items) (ap length c.prepare_pivot.ensures.second_stays
    ∙ c.self.invariant.second)
    (subst (λ u. IsSettled (length prepared.costs.second.now.items) c.args.r c.args.q u
    (numbers_in c.deref_mut-4.result.now prepared.costs.first.now.items
    prepared.costs.second.now.items)
    (numbers_in (with_items (with_items a.rows prepared.rows) settled.rows).items
    settled.costs.first.now.items settled.costs.second.now.items))
    c.prepare_pivot.ensures.use_stays
    (subst (λ l. IsSettled (length prepared.costs.second.now.items) c.args.r c.args.q
    prepared.costs.in_first
    (numbers_in c.deref_mut-4.result.now prepared.costs.first.now.items
    prepared.costs.second.now.items)
    (numbers_in l settled.costs.first.now.items settled.costs.second.now.items))
    (sym last) c.settle_pivot.ensures.settled))
