use Rattle.std.proofs.Common.{◌+◌, ◌-◌, ◌*◌, ◌^◌, [], ◌++◌, length, sym, subst}
use Rattle.std.specs.Str.Parse.{AllDigits, digits_value}
use Rattle.mof_text.specs.Decimal.{over_ten}
use Rattle.mof_text.proofs.DecimalLaws.{over_ten_small}
use Rattle.mof_text.proofs.DigitLaws.{AllDigits-drop, AllDigits-take}
use Rattle.mof_text.proofs.Parts.{AllDigits-append, IsBoth, both_joined, over_both, part_unfit, unfit_none, whole_unfit}
use Rattle.mof_text.proofs.decimal.over_ten.Goals as goal
use Rattle.mof_text.proofs.decimal.over_ten.Goals.{After-split_at-parts}

pub returns-in_err-shift : goal.returns-in_err-shift
returns-in_err-shift c =
    unfit_none c.from_residual.result _ (cc)
    (over_ten_small c.args.is_negative c.args.whole.now c.args.fraction.now
    (digits_value 10 c.args.exponent.now) c.requires.nonzero
    (AllDigits-append c.args.whole.now c.args.fraction.now c.requires.whole c.requires.fraction)
    c.in_err-shift.ensures)

both : (c : After-split_at-parts) → IsBoth c.args.is_negative
    (digits_value 10 (c.split_at-parts.result.0.now ++ []) * 10 ^ 0)
    (digits_value 10 (c.split_at-parts.result.1.now ++ c.args.fraction.now))
    (10 ^ (c.in_ok-shift.shift.zeros + length c.split_at-parts.result.1.now + length
    c.args.fraction.now))
    (over_ten c.args.is_negative c.args.whole.now c.args.fraction.now
    (digits_value 10 c.args.exponent.now))
both c =
    over_both c.args.is_negative c.args.whole.now c.args.fraction.now
    (digits_value 10 c.args.exponent.now) c.in_ok-shift.shift.moved c.in_ok-shift.shift.zeros
    c.split_at-parts.result.0.now c.split_at-parts.result.1.now c.in_ok-shift.ensures
    c.split_at-parts.ensures.front c.split_at-parts.ensures.back

pub part_behind-requires-clause-first : goal.part_behind-requires-clause-first
part_behind-requires-clause-first c =
    subst (AllDigits 10) (sym c.split_at-parts.ensures.back)
    (AllDigits-drop (length c.args.whole.now - c.in_ok-shift.shift.moved) c.args.whole.now
    c.requires.whole)

pub returns-in_err-part : goal.returns-in_err-part
returns-in_err-part c =
    unfit_none c.from_residual-in_err-part.result _ (cc)
    (part_unfit (both (goal.at.returns-in_err-part c).After-split_at-parts) c.in_err-part.ensures)

pub size_before-requires-clause-first : goal.size_before-requires-clause-first
size_before-requires-clause-first c =
    subst (AllDigits 10) (sym c.split_at-parts.ensures.front)
    (AllDigits-take (length c.args.whole.now - c.in_ok-shift.shift.moved) c.args.whole.now
    c.requires.whole)

pub returns-in_err-size : goal.returns-in_err-size
returns-in_err-size c =
    unfit_none c.from_residual-in_err-size.result _ (cc)
    (whole_unfit (both (goal.at.returns-in_err-size c).After-split_at-parts) c.in_err-size.ensures)

pub returns : goal.returns
returns c =
    both_joined (both (goal.at.returns c).After-split_at-parts) c.joined.result c.in_ok-size.size
    c.in_ok-part.part.num c.in_ok-part.part.den c.in_ok-part.part.below_one
    c.in_ok-size.ensures.1 c.in_ok-part.ensures c.joined.ensures
