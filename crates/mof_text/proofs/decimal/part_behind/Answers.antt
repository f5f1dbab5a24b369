use Rattle.std.proofs.Common.{◌≡◌, ◌+◌, ◌<◌, ◌^◌, ◌++◌, None, length, sym, subst, arith}
use Rattle.std.specs.Str.Parse.{AllDigits, digits_value}
use Rattle.mof_text.proofs.DigitLaws.{AllDigits-zeros}
use Rattle.mof_text.proofs.Parts.{fine_none, first_fine, first_over, last_fine, last_over, whole_tells}
use Rattle.mof_text.proofs.decimal.part_behind.Goals as goal

pub returns-in_err-behind_all : goal.returns-in_err-behind_all
returns-in_err-behind_all c =
    let none : c.from_residual.result ≡ None = cc in
    fine_none c.from_residual.result (digits_value 10 (c.args.first.now ++ c.args.last.now))
    (10 ^ (c.args.count + length c.args.first.now + length c.args.last.now)) none
    (last_fine c.args.count c.args.first.now c.args.last.now c.zero.result.num c.zero.result.den
    c.zero.ensures.num c.zero.ensures.den c.in_err-behind_all.ensures)

pub returns-in_err-part : goal.returns-in_err-part
returns-in_err-part c =
    let none : c.from_residual-in_err-part.result ≡ None = cc in
    let above : 0 < c.in_ok-behind_all.field-0.den =
    omega (arith, c.in_ok-behind_all.field-0.below_one) in
    fine_none c.from_residual-in_err-part.result
    (digits_value 10 (c.args.first.now ++ c.args.last.now))
    (10 ^ (c.args.count + length c.args.first.now + length c.args.last.now)) none
    (first_fine c.args.count c.args.first.now c.args.last.now c.in_ok-behind_all.field-0.num
    c.in_ok-behind_all.field-0.den above
    (last_over c.args.count c.args.first.now c.args.last.now c.zero.result.num c.zero.result.den
    c.in_ok-behind_all.field-0.num c.in_ok-behind_all.field-0.den c.zero.ensures.num
    c.zero.ensures.den c.in_ok-behind_all.ensures)
    c.in_err-part.ensures)

pub behind_all-requires-3 : goal.behind_all-requires-3
behind_all-requires-3 c = subst (AllDigits 10) (sym c.zeros.ensures) (AllDigits-zeros c.args.count)

pub returns : goal.returns
returns c =
    let above : 0 < c.in_ok-behind_all.field-0.den =
    omega (arith, c.in_ok-behind_all.field-0.below_one) in
    let above' : 0 < c.in_ok-part.part.den = omega (arith, c.in_ok-part.part.below_one) in
    whole_tells c.args.count c.args.first.now c.args.last.now c.in_ok-part.part.num
    c.in_ok-part.part.den c.zeros.result.now c.behind_all-3.result above'
    (first_over c.args.count c.args.first.now c.args.last.now c.in_ok-behind_all.field-0.num
    c.in_ok-behind_all.field-0.den above
    (last_over c.args.count c.args.first.now c.args.last.now c.zero.result.num c.zero.result.den
    c.in_ok-behind_all.field-0.num c.in_ok-behind_all.field-0.den c.zero.ensures.num
    c.zero.ensures.den c.in_ok-behind_all.ensures)
    c.in_ok-part.part.num c.in_ok-part.part.den c.in_ok-part.ensures)
    c.zeros.ensures c.behind_all-3.ensures
