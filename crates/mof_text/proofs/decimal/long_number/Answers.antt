use Rattle.std.proofs.Common.{◌∙◌, ap, sym}
use Rattle.std.specs.Str.Parse.{digits_value}
use Rattle.mof_text.proofs.NumberLaws.{down_by, some_digits, up_by, zero_some}
use Rattle.mof_text.proofs.Parts.{same_fit}
use Rattle.mof_text.proofs.decimal.long_number.Goals as goal

pub returns-then-are_all_zeros : goal.returns-then-are_all_zeros
returns-then-are_all_zeros c =
    zero_some c.args.is_negative c.args.numeral.now c.whole-whole.result.now
    c.fraction-fraction.result.now c.zero.result
    c.whole-whole.ensures.value c.fraction-fraction.ensures.value (sym c.are_all_zeros.ensures
    ∙ c.if-are_all_zeros.true) c.zero.ensures

pub over_ten-requires-clause-nonzero : goal.over_ten-requires-clause-nonzero
over_ten-requires-clause-nonzero c =
    some_digits c.whole-whole.result.now c.fraction-fraction.result.now c.whole-whole.ensures.digits
    c.fraction-fraction.ensures.digits (sym c.are_all_zeros.ensures ∙ c.if-are_all_zeros.false)

pub times_ten-requires-clause-nonzero : goal.times_ten-requires-clause-nonzero
times_ten-requires-clause-nonzero c =
    some_digits c.whole-whole.result.now c.fraction-fraction.result.now c.whole-whole.ensures.digits
    c.fraction-fraction.ensures.digits (sym c.are_all_zeros.ensures ∙ c.if-are_all_zeros.false)

pub returns-then-is_exponent_negative : goal.returns-then-is_exponent_negative
returns-then-is_exponent_negative c =
    same_fit c.over_ten.result _ _
    (down_by c.args.is_negative c.args.numeral.now c.whole-whole.ensures.value
    c.fraction-fraction.ensures.value
    (ap (digits_value 10) c.exponent.ensures.value)
    (sym c.is_exponent_negative.ensures ∙ c.if-is_exponent_negative.true))
    c.over_ten.ensures

pub returns-else-is_exponent_negative : goal.returns-else-is_exponent_negative
returns-else-is_exponent_negative c =
    same_fit c.times_ten.result _ _
    (up_by c.args.is_negative c.args.numeral.now c.whole-whole.ensures.value
    c.fraction-fraction.ensures.value
    (ap (digits_value 10) c.exponent-else-is_exponent_negative.ensures.value)
    (sym c.is_exponent_negative.ensures ∙ c.if-is_exponent_negative.false))
    c.times_ten.ensures
