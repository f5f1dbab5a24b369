use Rattle.std.proofs.Common.{◌≡◌, ◌+◌, ◌-◌, ◌*◌, ◌^◌, ◌<◌, None, arith, get_or, length}
use Rattle.std.specs.Str.Parse.{digits_value}
use Rattle.mof_text.proofs.DigitLaws.{digit_low}
use Rattle.mof_text.proofs.Parts.{fine_none}
use Rattle.mof_text.proofs.Steps.{digit_below, listed_end, listed_fine, listed_next, listed_start}
use Rattle.mof_text.proofs.tenths.Tenths.behind_all.Goals as goal

pub loop-place-init : goal.loop-place-init
loop-place-init c =
    record {
      within = omega arith;
      value = listed_start c.args.digits.now c.args.self.num
          c.args.self.den;
    }

pub overflow_sub-digits : goal.overflow_sub-digits
overflow_sub-digits c =
    let inside : c.loop-place.place - 1 < length c.args.digits.now =
    omega (arith, c.loop-place.invariant.within) in
    digit_low c.args.digits.now (c.loop-place.place - 1) c.requires inside

pub behind-requires : goal.behind-requires
behind-requires c =
    let inside : c.loop-place.place - 1 < length c.args.digits.now =
    omega (arith, c.loop-place.invariant.within) in
    omega (arith, digit_below c.args.digits.now (c.loop-place.place - 1) c.requires inside)

pub returns-in_err-fraction : goal.returns-in_err-fraction
returns-in_err-fraction c =
    let none : c.from_residual.result ≡ None = cc in
    let some : 0 < c.loop-place.place = omega arith in
    let digit : c.from.result ≡ get_or c.args.digits.now (c.loop-place.place - 1) 0 - 48 =
    omega arith in
    fine_none c.from_residual.result (digits_value 10 c.args.digits.now * c.args.self.den
    + c.args.self.num) (10 ^ length c.args.digits.now * c.args.self.den) none
    (listed_fine c.args.digits.now c.args.self.num c.args.self.den c.loop-place.place
    c.loop-place.fraction.num c.loop-place.fraction.den c.requires some
    c.loop-place.invariant.within
    (omega (arith, c.args.self.below_one)) (omega (arith, c.loop-place.fraction.below_one))
    c.loop-place.invariant.value c.from.result digit c.in_err-fraction.ensures)

pub loop-place-preserved : goal.loop-place-preserved
loop-place-preserved c =
    let some : 0 < c.loop-place.place = omega arith in
    let digit : c.from.result ≡ get_or c.args.digits.now (c.loop-place.place - 1) 0 - 48 =
    omega arith in
    record {
      within = omega (arith, c.loop-place.invariant.within);
      value =
          listed_next c.args.digits.now c.args.self.num c.args.self.den c.loop-place.place
          c.loop-place.fraction.num c.loop-place.fraction.den c.requires some
          c.loop-place.invariant.within
          (omega (arith, c.args.self.below_one)) (omega (arith, c.loop-place.fraction.below_one))
          c.loop-place.invariant.value c.from.result digit _ _ c.in_ok-fraction.ensures;
    }

pub returns : goal.returns
returns c =
    listed_end c.args.digits.now c.args.self.num c.args.self.den c.loop-place.place
    c.loop-place.fraction.num c.loop-place.fraction.den (omega arith) c.loop-place.invariant.value
