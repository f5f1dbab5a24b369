use Rattle.std.proofs.Common.{subst, sym, ◌<◌, ◌∙◌}
use Rattle.sparse_board.proofs.MixedSteps.{narrow_units, same_units}
use Rattle.sparse_board.proofs.step.Step.spread.Goals as goal

pub returns-in_err-open-clause-units : goal.returns-in_err-open-clause-units
returns-in_err-open-clause-units c = λ j.
    same_units c.args.self.now.is_narrow _ _ _ c.requires

pub returns-clause-units : goal.returns-clause-units
returns-clause-units c = λ j.
    same_units c.args.self.now.is_narrow _ _ _ c.requires

pub returns-clause-both : goal.returns-clause-both
returns-clause-both c = λ _ j b.
    c.spread_row.ensures.numbers j (subst (λ n. j < n) (sym c.in_ok-open.ensures.ok) b)
    ∙ narrow_units c.args.self.now.is_narrow _ _ c.requires
