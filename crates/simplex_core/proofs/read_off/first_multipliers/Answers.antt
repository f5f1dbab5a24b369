use Rattle.std.proofs.Common.{arith, length}
use Rattle.ratio_core.specs.Rational.{neg_ℚ, one_ℚ, sum_fits}
use Rattle.tableau_core.specs.BoardContents.{readings_of}
use Rattle.simplex_core.proofs.Choices.{passed_at}
use Rattle.simplex_core.proofs.Comparisons.{ok_from_fits}
use Rattle.simplex_core.proofs.read_off.first_multipliers.Goals as goal

pub unwrap-requires : goal.unwrap-requires
unwrap-requires g c =
    let t = g.T.Tableau.contents c.args.board.now in
    ok_from_fits c.sub.result c.one.result c.price.result _ ((readings_of t).first_price c.loop-j.j)
    c.sub.ensures.exact c.one.ensures c.price.ensures
    (passed_at t.reals (λ j. sum_fits one_ℚ (neg_ℚ ((readings_of t).first_price j))) c.loop-j.j
    (length t.rows) (omega arith) (omega arith) c.requires.fit)
