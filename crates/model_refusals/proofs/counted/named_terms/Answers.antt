use Rattle.std.proofs.Common.{count_by, not, ap, ◌∙◌}
use Rattle.ratio_core.specs.Rational.{rational_eq, zero_ℚ}
use Rattle.model_refusals.proofs.NamedTerms.{named_terms-is}
use Rattle.model_refusals.proofs.counted.named_terms.Goals as goal

pub returns-clause-value : goal.returns-clause-value
returns-clause-value c = λ model consistent known.
    c.nonzero_terms.ensures.value
    ∙ (ap (count_by (λ t. not (rational_eq t.coefficient zero_ℚ))) c.as_slice.ensures.value
    ∙ named_terms-is model consistent c.args.func.now known.known c.as_slice.ensures.distinct)
