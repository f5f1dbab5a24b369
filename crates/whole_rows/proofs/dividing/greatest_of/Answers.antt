use Rattle.std.proofs.Common.{◌≡◌, ◌<◌, ◌^◌, ◌∙◌, ℤ, FitsSigned, ap, arith, pos, rules, slice_index, slice_index_or, subst, sym, unsigned_abs, w64}
use Rattle.std.proofs.lemmas.Int.{to_z-of_z}
use Rattle.whole_rows.proofs.DividingSteps.{sized_more, sized_none}
use Rattle.whole_rows.proofs.ListedDividingSteps.{number_at_is, numbers_at, sized_all}
use Rattle.whole_rows.proofs.dividing.greatest_of.Goals as goal

pub loop-k-init : goal.loop-k-init
loop-k-init c =
    sized_none (numbers_at c.args.columns.now c.args.numbers.now) c.args.size c.requires.size

pub loop-k-preserved : goal.loop-k-preserved
loop-k-preserved c =
    let j = slice_index c.args.columns.now c.loop-k.k in
    let n : ℤ = slice_index_or c.args.numbers.now j (pos 0) in
    let n_fits : FitsSigned w64 n = search rules in
    let part_is : c.unsigned_abs.result ≡ unsigned_abs n =
    c.unsigned_abs.ensures.value ∙ ap unsigned_abs (to_z-of_z w64 n n_fits) in
    let small : c.unsigned_abs.result < 2 ^ 63 =
    subst (λ x. x < 2 ^ 63) (sym part_is) (c.requires.small j) in
    sized_more (numbers_at c.args.columns.now c.args.numbers.now) c.loop-k.k c.args.size
    c.loop-k.greatest c.unsigned_abs.result c.greater-greatest.result c.loop-k.invariant
    (part_is ∙ ap unsigned_abs (sym (number_at_is c.args.columns.now c.args.numbers.now c.loop-k.k
    c.loop-k-test.true)))
    c.greater-greatest.ensures.left c.greater-greatest.ensures.right
    (c.greater-greatest.ensures.small small c.loop-k.invariant.small)

pub returns : goal.returns
returns c =
    sized_all c.args.columns.now c.args.numbers.now c.loop-k.k c.args.size c.loop-k.greatest
    c.requires.lists (omega (arith, c.loop-k.auto.k-end, c.loop-k-test.false)) c.loop-k.invariant
