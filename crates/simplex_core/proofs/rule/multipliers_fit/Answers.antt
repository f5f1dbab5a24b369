use Rattle.std.proofs.Common.{length, ap, arith, not, sym, ◌∙◌}
use Rattle.ratio_core.specs.Rational.{neg_ℚ, one_ℚ, sum_fits}
use Rattle.tableau_core.specs.BoardContents.{readings_of}
use Rattle.simplex_core.proofs.Choices.{passed_all, passed_failed, passed_more, passed_none}
use Rattle.simplex_core.proofs.Comparisons.{difference_fits}
use Rattle.simplex_core.proofs.rule.multipliers_fit.Goals as goal

pub loop-j-init : goal.loop-j-init
loop-j-init g c =
    passed_none (g.T.Tableau.contents c.args.board.now).reals
    (λ j. sum_fits one_ℚ (neg_ℚ ((readings_of (g.T.Tableau.contents c.args.board.now)).first_price
    j))) _ c.real_count-j.ensures

pub returns-then-is_err : goal.returns-then-is_err
returns-then-is_err g c =
    let t = g.T.Tableau.contents c.args.board.now in
    sym (passed_failed t.reals (λ j. sum_fits one_ℚ (neg_ℚ ((readings_of t).first_price j)))
    c.loop-j.j (length t.rows) (omega arith) (omega arith)
    (difference_fits c.sub.result c.one.result c.price.result _ _ c.sub.ensures.exact c.one.ensures
    c.price.ensures ∙ ap not (sym c.is_err.ensures.value ∙ c.if-is_err.true)))

pub loop-j-preserved : goal.loop-j-preserved
loop-j-preserved g c =
    let t = g.T.Tableau.contents c.args.board.now in
    passed_more t.reals (λ j. sum_fits one_ℚ (neg_ℚ ((readings_of t).first_price j))) c.loop-j.j
    (omega arith) c.loop-j.invariant
    (difference_fits c.sub.result c.one.result c.price.result _ _ c.sub.ensures.exact c.one.ensures
    c.price.ensures ∙ ap not (sym c.is_err.ensures.value ∙ c.if-is_err.false))

pub returns : goal.returns
returns g c =
    let t = g.T.Tableau.contents c.args.board.now in
    sym (passed_all t.reals (λ j. sum_fits one_ℚ (neg_ℚ ((readings_of t).first_price j))) c.loop-j.j
    (length t.rows) (omega arith) c.loop-j.invariant)
