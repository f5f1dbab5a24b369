use Rattle.std.proofs.Common.{◌≡◌, ◌+◌, ◌-◌, ◌*◌, ◌<◌, ◌∙◌, ap, arith, drop, get_or, length}
use Rattle.std.specs.Str.Parse.{digits_value_after}
use Rattle.mof_text.proofs.DigitLaws.{digit_low, read_on, read_past}
use Rattle.mof_text.proofs.digits.value_after.Goals as goal

pub returns-then-value : goal.returns-then-value
returns-then-value c =
    let inside : c.loop-digit.digit-index < length c.args.digits.now = omega arith in
    read_past c.args.digits.now c.args.first c.loop-digit.value c.loop-digit.digit-index
    c.requires.digits inside c.loop-digit.invariant.same (omega arith)

pub overflow_sub-digit : goal.overflow_sub-digit
overflow_sub-digit c =
    let inside : c.loop-digit.digit-index < length c.args.digits.now = omega arith in
    digit_low c.args.digits.now c.loop-digit.digit-index c.requires.digits inside

pub returns-then-value-gt-GREATEST_PART : goal.returns-then-value-gt-GREATEST_PART
returns-then-value-gt-GREATEST_PART c =
    let inside : c.loop-digit.digit-index < length c.args.digits.now = omega arith in
    read_past c.args.digits.now c.args.first c.loop-digit.value c.loop-digit.digit-index
    c.requires.digits inside c.loop-digit.invariant.same (omega arith)

pub loop-digit-preserved : goal.loop-digit-preserved
loop-digit-preserved c =
    let inside : c.loop-digit.digit-index < length c.args.digits.now = omega arith in
    let value : c.loop-digit.value * 10 + c.from.result
    ≡ c.loop-digit.value * 10 + (get_or c.args.digits.now c.loop-digit.digit-index
    0 - 48) = omega arith in
    record {
      small = omega arith;
      same =
          ap (λ v. digits_value_after 10 v (drop (c.loop-digit.digit-index + 1) c.args.digits.now))
          value
          ∙ read_on c.args.digits.now c.args.first c.loop-digit.value c.loop-digit.digit-index
          c.requires.digits inside c.loop-digit.invariant.same;
    }
