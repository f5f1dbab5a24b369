use Rattle.std.proofs.Common.{◌+◌, ◌*◌, arith}
use Rattle.mof_text.proofs.Steps.{IsBehind, behind, past_limit, tens_of, within_limit}
use Rattle.mof_text.proofs.tenths.Tenths.behind.Goals as goal
use Rattle.mof_text.proofs.tenths.Tenths.behind.Goals.{After-of_digit-unit}

step : (c : After-of_digit-unit) → IsBehind c.args.digit c.args.self.num c.args.self.den
    (tens_of c.args.digit c.args.self.num c.args.self.den * c.of_digit-unit.result.den
    + c.of_digit-unit.result.num) (c.of_digit-unit.result.den * c.args.self.den)
step c =
    behind c.args.digit c.args.self.num c.args.self.den c.of_digit-unit.result.num
    c.of_digit-unit.result.den c.requires c.args.self.lowest c.args.self.below_one
    c.of_digit-unit.ensures.value c.of_digit-unit.result.lowest c.of_digit-unit.result.below_one

pub returns-then-self-unit : goal.returns-then-self-unit
returns-then-self-unit c =
    omega (
      arith,
      past_limit _ _ _ _ c.of_digit-unit.result.below_one c.if-self-unit.true,
      (step (goal.at.returns-then-self-unit c).After-of_digit-unit).den,
    )

pub overflow_mul-result : goal.overflow_mul-result
overflow_mul-result c =
    omega (
      arith,
      within_limit _ _ _ _ c.of_digit-unit.result.below_one c.if-self-unit.false,
      (step (goal.at.overflow_mul-result c).After-of_digit-unit).below,
    )

pub overflow_add-result : goal.overflow_add-result
overflow_add-result c =
    omega (
      arith,
      within_limit _ _ _ _ c.of_digit-unit.result.below_one c.if-self-unit.false,
      (step (goal.at.overflow_add-result c).After-of_digit-unit).below,
    )

pub invariant_of-result : goal.invariant_of-result
invariant_of-result c =
    let made = step (goal.at.invariant_of-result c).After-of_digit-unit in
    record {
      lowest = made.lowest;
      below_one = made.below;
      fits = omega (
        arith,
        within_limit _ _ _ _ c.of_digit-unit.result.below_one c.if-self-unit.false,
      );
    }

pub returns : goal.returns
returns c = (step (goal.at.returns c).After-of_digit-unit).value
