use Rattle.std.specs.Prelude.{Err, IsTrue, Ok, OnOk, Result}
use Rattle.std.proofs.Common.{◌≡◌, ◌+◌, ◌<◌, ap, arith, false, refl, slice_index, subst, sym, true, ◌∙◌}
use Rattle.ratio_core.specs.Rational.{◌/ℚ◌}
use Rattle.tableau_core.specs.BoardNumbers.{quotients_fit}
use Rattle.tableau_core.specs.TestLaws.{costs-decide, others-refused}
use Rattle.sparse_board.specs.Marking.{AreNumbersMarked}
use Rattle.sparse_board.specs.Mixed.{units_of, width_of}
use Rattle.sparse_board.specs.Rows.{now_at, number_in_row, numbers, numbers_in, rows_fit}
use Rattle.sparse_board.proofs.ChangeSteps.{lists_same}
use Rattle.sparse_board.proofs.StaySteps.{stays_same}
use Rattle.sparse_board.proofs.TestSteps.{left_fails, refused_on, test_same}
use Rattle.sparse_board.proofs.pivoting.prepare_pivot.Goals as goal

pub returns-in_err-divide_row-clause-fits : goal.returns-in_err-divide_row-clause-fits
returns-in_err-divide_row-clause-fits c =
    let rows = c.args.rows.now in
    refused_on c.from_residual.result _ _ _ c.from_residual.ensures.1
    (λ e. left_fails _ _ (subst (λ n. quotients_fit n (number_in_row rows c.args.r)
    (number_in_row rows c.args.r c.args.q) ≡ false) c.requires.step_wide e))
    c.in_err-divide_row.ensures.fits

pub returns-in_err-prepare_rows-clause-fits : goal.returns-in_err-prepare_rows-clause-fits
returns-in_err-prepare_rows-clause-fits c =
    let rows = c.args.rows.now in
    let costs = c.args.costs.now in
    refused_on c.from_residual-in_err-prepare_rows.result _ _ _
    c.from_residual-in_err-prepare_rows.ensures.1
    (λ e. others-refused (width_of costs.second.now) c.args.r c.args.q costs.in_first
    (numbers_in rows costs.first.now costs.second.now)
    (units_of c.divide_row.new.step)
    (λ j b. c.in_ok-divide_row.ensures.ok j (subst (λ n. j < n) (sym c.requires.step_wide) b))
    (subst (λ n. rows_fit n c.args.r c.args.q (units_of c.divide_row.new.step) rows ≡ false)
    (c.in_ok-divide_row.ensures.width ∙ c.requires.step_wide) e))
    (c.in_err-prepare_rows.ensures.fits c.args.r c.note-has_wide.ensures.lists)

pub returns-clause-fits : goal.returns-clause-fits
returns-clause-fits c =
    let rows = c.args.rows.now in
    let costs = c.args.costs.now in
    test_same c.prepare.result _ _
    (costs-decide (width_of costs.second.now) c.args.r c.args.q costs.in_first
    (numbers_in rows costs.first.now costs.second.now)
    (units_of c.divide_row.new.step)
    (λ j b. c.in_ok-divide_row.ensures.ok j (subst (λ n. j < n) (sym c.requires.step_wide) b))
    (subst (λ n. quotients_fit n (number_in_row rows c.args.r)
    (number_in_row rows c.args.r c.args.q) ≡ true) c.requires.step_wide
    c.in_ok-divide_row.ensures.fits)
    (subst (λ n. rows_fit n c.args.r c.args.q (units_of c.divide_row.new.step) rows ≡ true)
    (c.in_ok-divide_row.ensures.width ∙ c.requires.step_wide)
    (c.in_ok-prepare_rows.ensures.fits c.args.r c.note-has_wide.ensures.lists)))
    c.prepare.ensures.fits

both_ok : {T E : Type 0} (r : Result T E) (P Q R : Type 0) → (P → Q → R) → OnOk r P → OnOk r Q
    → OnOk r R
both_ok (Ok x) P Q R f p q = f p q
both_ok (Err e) P Q R f p q = tt

pub returns-clause-ok : goal.returns-clause-ok
returns-clause-ok c =
    both_ok c.prepare.result _ _ _ (λ first second. record {
      both = c.in_ok-divide_row.ensures.both;
      divided = λ j b. c.in_ok-divide_row.ensures.ok j
          (subst (λ n. j < n) c.in_ok-divide_row.ensures.width b)
          ∙ ap (λ o. numbers o j /ℚ numbers o c.args.q) (sym (c.prepare_rows.ensures.stays c.args.r));
      lists = lists_same c.args.rows.now c.prepare_rows.new.rows c.args.r c.args.q
          c.note-has_wide.new.self.rows.items c.note-has_wide.new.self.count
          c.prepare_rows.auto.rows c.prepare_rows.ensures.stays c.note-has_wide.ensures.lists;
      others = c.in_ok-prepare_rows.ensures.ok;
      first_ready = λ t. first (subst IsTrue c.prepare.ensures.use_stays t);
      second_ready = second;
    }) c.prepare.ensures.first_ready c.prepare.ensures.second_ready

pub note-has_wide-requires-clause-column : goal.note-has_wide-requires-clause-column
note-has_wide-requires-clause-column c = omega (arith, c.requires.columns, c.requires.column)

pub note-has_wide-requires-clause-marked : goal.note-has_wide-requires-clause-marked
note-has_wide-requires-clause-marked c =
    subst (λ n. AreNumbersMarked n c.args.marks.now c.args.rows.now) (sym c.requires.columns)
    c.requires.marked

pub prepare_rows-requires-clause-listed : goal.prepare_rows-requires-clause-listed
prepare_rows-requires-clause-listed c = c.note-has_wide.ensures.lists.listed

pub returns-in_err-divide_row-clause-marked : goal.returns-in_err-divide_row-clause-marked
returns-in_err-divide_row-clause-marked c =
    c.note-has_wide.ensures.marked c.args.step.now.width c.requires.marked

pub returns-in_err-prepare_rows-clause-marked : goal.returns-in_err-prepare_rows-clause-marked
returns-in_err-prepare_rows-clause-marked c =
    c.note-has_wide.ensures.marked c.args.step.now.width c.requires.marked

pub returns-clause-marked : goal.returns-clause-marked
returns-clause-marked c =
    c.note-has_wide.ensures.marked c.args.step.now.width c.requires.marked

pub all_stay-step-requires-clause-column : goal.all_stay-step-requires-clause-column
all_stay-step-requires-clause-column c =
    subst (λ n. c.args.q + 1 < n) (sym c.in_ok-divide_row.ensures.width) c.requires.column

pub all_stay-step-requires-clause-listed : goal.all_stay-step-requires-clause-listed
all_stay-step-requires-clause-listed c = c.note-has_wide.ensures.lists.listed

pub prepare_rows-requires-clause-staying : goal.prepare_rows-requires-clause-staying
prepare_rows-requires-clause-staying c = λ t k b.
    stays_same c.args.q c.divide_row.new.step _
    (now_at c.args.rows.now (slice_index c.note-has_wide.new.self.rows.items k)) refl refl
    (c.all_stay-step.ensures t k b)
