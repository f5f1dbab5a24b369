use Rattle.std.proofs.Common.{◌≡◌, ◌*◌, ◌<◌, ◌^◌, ◌++◌, ◌∙◌, ap, ap₂, arith, sym, subst}
use Rattle.std.specs.Str.Parse.{digits_value, digits_value_after}
use Rattle.ratio_core.specs.Rational.{reduce, signed}
use Rattle.mof_text.proofs.DecimalLaws.{power_pos}
use Rattle.mof_text.proofs.DigitLaws.{after-append}
use Rattle.mof_text.proofs.Parts.{same_fit, short_digits, small_power}
use Rattle.mof_text.proofs.decimal.scaled_digits.Goals as goal
use Rattle.mof_text.proofs.decimal.scaled_digits.Goals.{After-pow}

pub returns-in_err-value_after : goal.returns-in_err-value_after
returns-in_err-value_after c =
    absurd (c.in_err-value_after.ensures (short_digits c.args.whole.now c.args.fraction.now
    c.args.up c.requires.whole c.requires.fraction c.requires.short c.requires.up).0)

pub returns-in_err-digits : goal.returns-in_err-digits
returns-in_err-digits c =
    absurd (c.in_err-digits.ensures (subst (λ n. digits_value_after 10 n c.args.fraction.now < 2
    ^ 127) (sym c.in_ok-value_after.ensures.1)
    (short_digits c.args.whole.now c.args.fraction.now c.args.up c.requires.whole
    c.requires.fraction c.requires.short c.requires.up).1))

scaled : (c : After-pow) → c.in_ok-digits.digits * c.pow.result
    ≡ digits_value 10 (c.args.whole.now ++ c.args.fraction.now) * 10 ^ c.args.up
scaled c =
    ap₂ (λ a b. a * b) (c.in_ok-digits.ensures.1
    ∙ ap (λ t. digits_value_after 10 t c.args.fraction.now) c.in_ok-value_after.ensures.1
    ∙ sym (after-append 0 c.args.whole.now c.args.fraction.now)) c.pow.ensures

small : (c : After-pow) → c.in_ok-digits.digits * c.pow.result < 2 ^ 127
small c =
    omega (
      arith,
      scaled c,
      (short_digits c.args.whole.now c.args.fraction.now c.args.up c.requires.whole
          c.requires.fraction c.requires.short c.requires.up).2,
    )

pub overflow_mul-digits : goal.overflow_mul-digits
overflow_mul-digits c = omega (arith, small c)

pub pow-requires-2 : goal.pow-requires-2
pow-requires-2 c = omega (arith, small_power c.args.down c.requires.down)

pub quotient-requires-clause-num : goal.quotient-requires-clause-num
quotient-requires-clause-num c =
    small (goal.at.quotient-requires-clause-num c).After-pow

pub quotient-requires-clause-some : goal.quotient-requires-clause-some
quotient-requires-clause-some c = omega (arith, power_pos c.args.down, c.pow-2.ensures)

pub quotient-requires-clause-den : goal.quotient-requires-clause-den
quotient-requires-clause-den c =
    omega (arith, small_power c.args.down c.requires.down, c.pow-2.ensures)

pub returns : goal.returns
returns c =
    same_fit c.quotient.result _ _
    (ap₂ (λ a b. reduce (signed c.args.is_negative a) b) (scaled (goal.at.returns c).After-pow)
    c.pow-2.ensures) c.quotient.ensures
