use Rattle.std.proofs.Common.{subst}
use Rattle.ratio_core.specs.Rational.{zero_ℚ, ◌‹ℚ◌}
use Rattle.sparse_board.proofs.LeavingSteps.{numerator_above}
use Rattle.sparse_board.proofs.MixedSteps.{number_narrow}
use Rattle.sparse_board.proofs.leaving.leaves_sooner.Goals as goal

pub is_before-requires-clause-above : goal.is_before-requires-clause-above
is_before-requires-clause-above c =
    let row = c.args.row.now.now in
    numerator_above row.narrow c.args.q
    (subst (λ x. zero_ℚ ‹ℚ x)
    (number_narrow row (c.is_whole.ensures c.if-is_whole.true).0 c.args.q) c.requires.above)

pub is_before-requires-clause-other_above : goal.is_before-requires-clause-other_above
is_before-requires-clause-other_above c =
    let row = c.args.other.now.now in
    numerator_above row.narrow c.args.q
    (subst (λ x. zero_ℚ ‹ℚ x)
    (number_narrow row (c.is_whole-then-is_whole.ensures c.if-is_whole-2.true).0 c.args.q)
    c.requires.other_above)
