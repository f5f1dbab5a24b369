use Rattle.std.proofs.Common.{◌∙◌, sym, true}
use Rattle.mof_text.proofs.NumberLaws.{number_by, up_by}
use Rattle.mof_text.proofs.Parts.{same_fit}
use Rattle.mof_text.proofs.decimal.short_number.Goals as goal

pub returns-then-is_exponent_negative : goal.returns-then-is_exponent_negative
returns-then-is_exponent_negative c =
    same_fit c.scaled_digits.result _ _
    (number_by c.args.is_negative c.args.numeral.now c.whole-whole.ensures.value
    c.fraction-fraction.ensures.value c.requires.power true
    (sym c.is_exponent_negative.ensures ∙ c.if-is_exponent_negative.true))
    c.scaled_digits.ensures

pub returns-else-is_exponent_negative : goal.returns-else-is_exponent_negative
returns-else-is_exponent_negative c =
    same_fit c.scaled_digits-else-is_exponent_negative.result _ _
    (up_by c.args.is_negative c.args.numeral.now c.whole-whole.ensures.value
    c.fraction-fraction.ensures.value c.requires.power
    (sym c.is_exponent_negative.ensures ∙ c.if-is_exponent_negative.false))
    c.scaled_digits-else-is_exponent_negative.ensures
