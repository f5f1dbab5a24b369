use Rattle.std.proofs.Common.{◌≡◌, ◌∙◌, sym, Equal, Greater, Less}
use Rattle.ratio_core.specs.Rational.{rational_cmp, ◌/ℚ◌}
use Rattle.sparse_board.specs.Mixed.{number_of}
use Rattle.sparse_board.proofs.LeavingSteps.{before_by}
use Rattle.sparse_board.proofs.leaving.comes_first.Goals as goal
use Rattle.sparse_board.proofs.leaving.comes_first.Goals.{After-cmp_quotients}

order : (c : After-cmp_quotients) → c.cmp_quotients.result ≡ rational_cmp
    (number_of c.args.row.now c.args.side /ℚ number_of c.args.row.now c.args.q)
    (number_of c.args.other.now c.args.side /ℚ number_of c.args.other.now c.args.q)
order c =
    c.cmp_quotients.ensures
    ∙ (λ k. rational_cmp (c.number-right.ensures k /ℚ c.number-over.ensures k)
    (c.number.ensures k /ℚ c.number-2.ensures k))

pub returns-in-Less : goal.returns-in-Less
returns-in-Less c =
    before_by _ _ c.args.is_lower Less
    (sym c.in-Less.is ∙ order (goal.at.returns-in-Less c).After-cmp_quotients)

pub returns-in-Equal : goal.returns-in-Equal
returns-in-Equal c =
    before_by _ _ c.args.is_lower Equal
    (sym c.in-Equal.is ∙ order (goal.at.returns-in-Equal c).After-cmp_quotients)

pub returns-in-Greater : goal.returns-in-Greater
returns-in-Greater c =
    before_by _ _ c.args.is_lower Greater
    (sym c.in-Greater.is ∙ order (goal.at.returns-in-Greater c).After-cmp_quotients)
