use Rattle.std.specs.Prelude.{◌≡◌}
use Rattle.std.proofs.Common.{◌∙◌, subst, sym}
use Rattle.ratio_core.specs.Rational.{one_ℚ, zero_ℚ}
use Rattle.ratio_core.specs.Answers.{ExactWhere}
use Rattle.rational_laws.specs.Field.{one-*ℚ, zero-*ℚ}
use Rattle.aff_core.specs.Function.{evaluated}
use Rattle.cert_core.specs.Folds.{EvaluationFits}
use Rattle.cert_core.specs.Points.{numbers_in}
use Rattle.cert_core.specs.Readings.{one_of}
use Rattle.cert_core.proofs.Evaluated.{read_from}
use Rattle.cert_core.proofs.readings.ValueOrSlope.of_function.Goals as goal

pub returns-in-Value : goal.returns-in-Value
returns-in-Value c =
    let f = c.args.f.now in
    let x = numbers_in c.args.at.now in
    subst (λ k. ExactWhere c.plus_terms.result (EvaluationFits (one_of k) f x)
    (λ q. q ≡ evaluated (one_of k) f x)) (sym c.in-Value.is)
    (read_from c.plus_terms.result one_ℚ c.constant.result f c.terms.result.now x
    c.terms.ensures.all
    (c.constant.ensures ∙ sym (one-*ℚ f.constant)) c.plus_terms.ensures)

pub returns-in-Slope : goal.returns-in-Slope
returns-in-Slope c =
    let f = c.args.f.now in
    let x = numbers_in c.args.at.now in
    subst (λ k. ExactWhere c.plus_terms-in-Slope.result (EvaluationFits (one_of k) f x)
    (λ q. q ≡ evaluated (one_of k) f x)) (sym c.in-Slope.is)
    (read_from c.plus_terms-in-Slope.result zero_ℚ c.zero.result f c.terms-in-Slope.result.now x
    c.terms-in-Slope.ensures.all (c.zero.ensures ∙ sym (zero-*ℚ f.constant))
    c.plus_terms-in-Slope.ensures)
