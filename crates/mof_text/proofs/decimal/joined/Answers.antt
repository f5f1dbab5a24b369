use Rattle.std.proofs.Common.{arith}
use Rattle.mof_text.proofs.Parts.{joined_unfit, unfit_none}
use Rattle.mof_text.proofs.decimal.joined.Goals as goal

pub returns-in_err-checked_mul : goal.returns-in_err-checked_mul
returns-in_err-checked_mul c =
    unfit_none c.from_residual.result _ (cc)
    (joined_unfit c.args.is_negative c.args.size c.args.part.num c.args.part.den
    c.args.part.below_one c.args.part.lowest (omega (arith, c.in_err-checked_mul.ensures)))

pub returns-in_err-num : goal.returns-in_err-num
returns-in_err-num c =
    unfit_none c.from_residual-in_err-num.result _ (cc)
    (joined_unfit c.args.is_negative c.args.size c.args.part.num c.args.part.den
    c.args.part.below_one c.args.part.lowest
    (omega (arith, c.in_err-num.ensures, c.in_ok-checked_mul.ensures)))

pub returns-then-num-gt-GREATEST_PART : goal.returns-then-num-gt-GREATEST_PART
returns-then-num-gt-GREATEST_PART c =
    joined_unfit c.args.is_negative c.args.size c.args.part.num c.args.part.den
    c.args.part.below_one c.args.part.lowest
    (omega (arith, c.in_ok-num.ensures, c.in_ok-checked_mul.ensures))
