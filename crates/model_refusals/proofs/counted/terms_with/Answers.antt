use Rattle.std.proofs.Common.{length, arith, ap}
use Rattle.std.specs.FinMap.{contains_key}
use Rattle.ratio_core.specs.Rational.{rational_eq, zero_ℚ}
use Rattle.model_refusals.proofs.ChangedTerms.{mentioned_counts, terms_with-is}
use Rattle.model_refusals.proofs.ZeroTests.{byte_is, not_byte_is, zero_test}
use Rattle.model_refusals.proofs.counted.terms_with.Goals as goal

pub overflow_sub-others : goal.overflow_sub-others
overflow_sub-others c =
    let f = c.args.func.now in
    let there = byte_is c.mentions.result (contains_key f.terms c.args.at.now) c.from.result
    c.from.ensures c.mentions.ensures in
    let few = mentioned_counts f c.args.at.now in
    let all = ap length c.terms.ensures.all in
    omega arith

pub returns-clause-value : goal.returns-clause-value
returns-clause-value c =
    let f = c.args.func.now in
    let there = byte_is c.mentions.result (contains_key f.terms c.args.at.now) c.from.result
    c.from.ensures c.mentions.ensures in
    let value = c.args.value.now in
    let some = not_byte_is c.is_zero.result (rational_eq value zero_ℚ) c.from-2.result
    c.from-2.ensures (zero_test c.is_zero.result value c.is_zero.ensures) in
    let all = ap length c.terms.ensures.all in
    let is = terms_with-is f c.args.at.now value in
    omega arith
