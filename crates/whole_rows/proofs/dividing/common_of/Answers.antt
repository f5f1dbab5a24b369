use Rattle.std.proofs.Common.{◌≡◌, ◌∙◌, ℤ, FitsSigned, ap, arith, length, pos, rules, slice_index, slice_index_or, sym, unsigned_abs, w64}
use Rattle.std.proofs.lemmas.Int.{to_z-of_z}
use Rattle.whole_rows.proofs.DividingSteps.{divides_more, divides_none, one_divides}
use Rattle.whole_rows.proofs.ListedDividingSteps.{divides_listed, number_at_is, numbers_at}
use Rattle.whole_rows.proofs.dividing.common_of.Goals as goal

pub loop-k-init : goal.loop-k-init
loop-k-init c =
    divides_none (numbers_at c.args.columns.now c.args.numbers.now) c.args.size c.requires.above

pub loop-k-preserved : goal.loop-k-preserved
loop-k-preserved c =
    let j = slice_index c.args.columns.now c.loop-k.k in
    let n : ℤ = slice_index_or c.args.numbers.now j (pos 0) in
    let n_fits : FitsSigned w64 n = search rules in
    let part_is : c.unsigned_abs.result ≡ unsigned_abs n =
    c.unsigned_abs.ensures.value ∙ ap unsigned_abs (to_z-of_z w64 n n_fits) in
    divides_more (numbers_at c.args.columns.now c.args.numbers.now) c.loop-k.k c.args.size
    c.loop-k.common c.unsigned_abs.result c.common_divisor-common.result c.loop-k.invariant
    (part_is ∙ ap unsigned_abs (sym (number_at_is c.args.columns.now c.args.numbers.now c.loop-k.k
    c.loop-k-test.true)))
    c.common_divisor-common.ensures.value c.common_divisor-common.ensures.positive

pub returns-then-common-eq1 : goal.returns-then-common-eq1
returns-then-common-eq1 c =
    one_divides c.args.numbers.now (length c.args.numbers.now) c.args.size

pub returns : goal.returns
returns c =
    divides_listed c.args.columns.now c.args.numbers.now c.loop-k.k c.args.size c.loop-k.common
    c.requires.lists (omega (arith, c.loop-k.auto.k-end, c.loop-k-test.false)) c.loop-k.invariant
