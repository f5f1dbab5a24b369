use Rattle.std.proofs.Common.{◌+◌, ◌∙◌, nat_lt, slice_index_or, subst, sym, IfSome}
use Rattle.ratio_core.specs.Rational.{zero_ℚ, ◌/ℚ◌, ◌‹ℚ◌}
use Rattle.tableau_core.specs.Leaving.{comes_before}
use Rattle.sparse_board.specs.Leaving.{IsSparseCandidate, leaves_before, may_leave}
use Rattle.sparse_board.proofs.LeavingSteps.{better_none, better_some, item_number, item_width, may_leave_is}
use Rattle.sparse_board.proofs.leaving.leaves_first.Goals as goal
use Rattle.sparse_board.proofs.leaving.leaves_first.Goals.{After-index-rows-k}

-- the best so far
candidate : (c : After-index-rows-k) → IsSparseCandidate c.args.rows.now c.args.q c.in-Some.k
candidate c =
    subst (λ o. IfSome o (λ k. IsSparseCandidate c.args.rows.now c.args.q k)) c.in-Some.is
    c.requires.best

pub leaves_sooner-requires-clause-above : goal.leaves_sooner-requires-clause-above
leaves_sooner-requires-clause-above c =
    subst (λ x. zero_ℚ ‹ℚ x) (sym (item_number c.args.rows.now c.args.i c.index-rows-i.result
    c.index-rows-i.result c.requires.row c.index-rows-i.is c.args.q))
    (may_leave_is c.args.rows.now c.args.q c.args.i c.requires.row c.requires.may_leave).above

pub leaves_sooner-requires-clause-width : goal.leaves_sooner-requires-clause-width
leaves_sooner-requires-clause-width c =
    item_width (c.args.side + 1) c.args.rows.now c.args.i c.index-rows-i.result
    c.index-rows-i.result c.requires.wide c.requires.row c.index-rows-i.is

pub leaves_sooner-requires-clause-other_width : goal.leaves_sooner-requires-clause-other_width
leaves_sooner-requires-clause-other_width c =
    item_width (c.args.side + 1) c.args.rows.now c.in-Some.k c.index-rows-k.result
    c.index-rows-k.result c.requires.wide (candidate (goal.at.leaves_sooner-requires-clause-other_width c).After-index-rows-k).within c.index-rows-k.is

pub leaves_sooner-requires-clause-other_above : goal.leaves_sooner-requires-clause-other_above
leaves_sooner-requires-clause-other_above c =
    subst (λ x. zero_ℚ ‹ℚ x) (sym (item_number c.args.rows.now c.in-Some.k c.index-rows-k.result
    c.index-rows-k.result (candidate (goal.at.leaves_sooner-requires-clause-other_above c).After-index-rows-k).within c.index-rows-k.is c.args.q)) (candidate (goal.at.leaves_sooner-requires-clause-other_above c).After-index-rows-k).above

pub returns-in-Some-clause-value : goal.returns-in-Some-clause-value
returns-in-Some-clause-value c =
    let rows = c.args.rows.now in
    let one = item_number rows c.args.i c.index-rows-i.result c.index-rows-i.result c.requires.row
    c.index-rows-i.is in
    let two = item_number rows c.in-Some.k c.index-rows-k.result c.index-rows-k.result
    (candidate (goal.at.returns-in-Some-clause-value c).After-index-rows-k).within
    c.index-rows-k.is in
    better_some (may_leave rows c.args.q)
    (leaves_before rows c.args.basis.now c.args.side c.args.q) c.args.best c.args.i c.in-Some.k
    c.leaves_sooner.result c.in-Some.is
    c.requires.may_leave
    (c.leaves_sooner.ensures
    ∙ (λ z. comes_before (one c.args.side z /ℚ one c.args.q z) (two c.args.side z /ℚ two c.args.q z)
    (nat_lt (slice_index_or c.args.basis.now c.args.i 0)
    (slice_index_or c.args.basis.now c.in-Some.k 0))))

pub returns-in-Some-clause-candidate : goal.returns-in-Some-clause-candidate
returns-in-Some-clause-candidate c = λ _. may_leave_is c.args.rows.now c.args.q c.args.i
    c.requires.row c.requires.may_leave

pub returns-in-None-clause-value : goal.returns-in-None-clause-value
returns-in-None-clause-value c =
    better_none (may_leave c.args.rows.now c.args.q)
    (leaves_before c.args.rows.now c.args.basis.now c.args.side c.args.q) c.args.best c.args.i
    c.in-None.is c.requires.may_leave

pub returns-in-None-clause-candidate : goal.returns-in-None-clause-candidate
returns-in-None-clause-candidate c = λ _. may_leave_is c.args.rows.now c.args.q c.args.i
    c.requires.row c.requires.may_leave
