use Rattle.std.proofs.Common.{sym, subst}
use Rattle.std.specs.Str.Parse.{AllDigits}
use Rattle.mof_text.proofs.DigitLaws.{AllDigits-zeros}
use Rattle.mof_text.proofs.Parts.{first_large, large_none, last_large, scaled_is}
use Rattle.mof_text.proofs.decimal.size_before.Goals as goal

pub returns-in_err-value_after : goal.returns-in_err-value_after
returns-in_err-value_after c =
    large_none c.from_residual.result _ (cc)
    (first_large c.args.count c.args.first.now c.args.last.now c.in_err-value_after.ensures)

pub returns-in_err-size : goal.returns-in_err-size
returns-in_err-size c =
    large_none c.from_residual-in_err-size.result _ (cc)
    (last_large c.args.count c.args.first.now c.args.last.now c.in_ok-value_after.field-0
    c.in_ok-value_after.ensures.1 c.in_err-size.ensures)

pub value_after-requires-3-clause-digits : goal.value_after-requires-3-clause-digits
value_after-requires-3-clause-digits c =
    subst (AllDigits 10) (sym c.zeros.ensures) (AllDigits-zeros c.args.count)

pub returns : goal.returns
returns c =
    scaled_is c.args.count c.args.first.now c.args.last.now c.in_ok-value_after.field-0
    c.in_ok-size.size c.zeros.result.now c.value_after-3.result
    c.in_ok-value_after.ensures.1 c.in_ok-size.ensures.1 c.zeros.ensures c.value_after-3.ensures
