use Rattle.std.proofs.Common.{◌+◌, ◌*◌, ◌^◌, [], ◌++◌, length, sym, subst}
use Rattle.std.specs.Str.Parse.{AllDigits, digits_value}
use Rattle.mof_text.specs.Decimal.{times_ten}
use Rattle.mof_text.proofs.DecimalLaws.{times_ten_large}
use Rattle.mof_text.proofs.DigitLaws.{AllDigits-drop, AllDigits-take}
use Rattle.mof_text.proofs.Parts.{IsBoth, both_joined, part_unfit, times_both, unfit_none, whole_unfit}
use Rattle.mof_text.proofs.decimal.times_ten.Goals as goal
use Rattle.mof_text.proofs.decimal.times_ten.Goals.{After-split_at-parts}

pub returns-in_err-shift : goal.returns-in_err-shift
returns-in_err-shift c =
    unfit_none c.from_residual.result _ (cc)
    (times_ten_large c.args.is_negative c.args.whole.now c.args.fraction.now
    (digits_value 10 c.args.exponent.now) c.requires.nonzero c.in_err-shift.ensures)

both : (c : After-split_at-parts) → IsBoth c.args.is_negative
    (digits_value 10 (c.args.whole.now ++ c.split_at-parts.result.0.now) * 10
    ^ c.in_ok-shift.shift.zeros) (digits_value 10 ([] ++ c.split_at-parts.result.1.now))
    (10 ^ (0 + 0 + length c.split_at-parts.result.1.now))
    (times_ten c.args.is_negative c.args.whole.now c.args.fraction.now
    (digits_value 10 c.args.exponent.now))
both c =
    times_both c.args.is_negative c.args.whole.now c.args.fraction.now
    (digits_value 10 c.args.exponent.now) c.in_ok-shift.shift.moved c.in_ok-shift.shift.zeros
    c.split_at-parts.result.0.now c.split_at-parts.result.1.now c.in_ok-shift.ensures
    c.split_at-parts.ensures.front c.split_at-parts.ensures.back

pub part_behind-requires-clause-last : goal.part_behind-requires-clause-last
part_behind-requires-clause-last c =
    subst (AllDigits 10) (sym c.split_at-parts.ensures.back)
    (AllDigits-drop c.in_ok-shift.shift.moved c.args.fraction.now c.requires.fraction)

pub returns-in_err-part : goal.returns-in_err-part
returns-in_err-part c =
    unfit_none c.from_residual-in_err-part.result _ (cc)
    (part_unfit (both (goal.at.returns-in_err-part c).After-split_at-parts) c.in_err-part.ensures)

pub size_before-requires-clause-last : goal.size_before-requires-clause-last
size_before-requires-clause-last c =
    subst (AllDigits 10) (sym c.split_at-parts.ensures.front)
    (AllDigits-take c.in_ok-shift.shift.moved c.args.fraction.now c.requires.fraction)

pub returns-in_err-size : goal.returns-in_err-size
returns-in_err-size c =
    unfit_none c.from_residual-in_err-size.result _ (cc)
    (whole_unfit (both (goal.at.returns-in_err-size c).After-split_at-parts) c.in_err-size.ensures)

pub returns : goal.returns
returns c =
    both_joined (both (goal.at.returns c).After-split_at-parts) c.joined.result c.in_ok-size.size
    c.in_ok-part.part.num c.in_ok-part.part.den c.in_ok-part.part.below_one
    c.in_ok-size.ensures.1 c.in_ok-part.ensures c.joined.ensures
