use Rattle.std.proofs.Common.{ap, sym, ◌∙◌}
use Rattle.ratio_core.specs.Rational.{reduce}
use Rattle.rational_laws.specs.Over.{over-zero_ℚ}
use Rattle.sparse_board.proofs.step.Step.set_narrow.Goals as goal

pub set-requires-clause-nonzero : goal.set-requires-clause-nonzero
set-requires-clause-nonzero c = λ z.
    let row = c.args.row.now in
    c.requires.nonzero (ap (λ n. reduce n row.den) z ∙ sym (over-zero_ℚ row.den row.above))
