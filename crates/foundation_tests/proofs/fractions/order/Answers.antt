use Rattle.std.proofs.Common.{Less, subst}
use Rattle.ratio_core.specs.Rational.{◌‹ℚ◌}
use Rattle.ratio_core.specs.RationalLaws.{rational_ranked}
use Rattle.foundation_tests.proofs.fractions.order.Goals as goal

pub cmp_quotients-requires-clause-by : goal.cmp_quotients-requires-clause-by
cmp_quotients-requires-clause-by c =
    subst (λ z. z ‹ℚ c.args.a) c.zero-zero.ensures (rational_ranked _ _ Less c.in-Less-Less.ensures)

pub cmp_quotients-requires-clause-over : goal.cmp_quotients-requires-clause-over
cmp_quotients-requires-clause-over c =
    subst (λ z. z ‹ℚ c.args.b) c.zero-zero.ensures
    (rational_ranked _ _ Less c.in-Less-Less.ensures')
