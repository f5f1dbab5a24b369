use Rattle.std.proofs.Common.{◌+◌, ◌<◌, ◌≤◌, ◌≡◌, ◌^◌, ◌∙◌, ℕ, ℤ, FitsSigned, ap, arith, length, rules, subst, sym, unsigned_abs, w64}
use Rattle.std.proofs.lemmas.Int.{to_z-of_z}
use Rattle.whole_rows.specs.Common.{over_num}
use Rattle.sparse_board.specs.Mixed.{IsDenominator}
use Rattle.sparse_board.specs.Numbers.{width_of}
use Rattle.sparse_board.specs.Sparse.{values_in}
use Rattle.sparse_board.proofs.NarrowingSteps.{filled_all, filled_more}
use Rattle.sparse_board.proofs.RowSteps.{column_is, columns_long, row_end, row_place, value_is}
use Rattle.sparse_board.proofs.narrowing.narrow_to.Goals as goal

within_lem : (x w n m : ℕ) → x < w → w ≤ n + 1 → m ≡ n → x ≤ m
within_lem x w n m b h e = omega (arith, b, h, e)

pub put-requires-clause-within : goal.put-requires-clause-within
put-requires-clause-within c =
    let wide = c.args.wide.now in
    let b = row_place wide c.len-k-end.result c.loop-k.k c.len-k-end.ensures c.loop-k-test.true in
    let is = column_is wide c.loop-k.k c.index-entry.result.now b c.index-entry.ensures in
    within_lem _ _ _ _ (subst (λ x. x < width_of wide) (sym is) (wide.within c.loop-k.k b))
    c.requires c.loop-k.invariant.width

pub put-requires-clause-small : goal.put-requires-clause-small
put-requires-clause-small c =
    let m : ℤ = c.in-Some-over_denominator.numerator in
    let m_fits : FitsSigned w64 m = search rules in
    subst (λ z. unsigned_abs z < 2 ^ 63) (sym (to_z-of_z w64 m m_fits))
    c.in-Some-over_denominator.ensures.1

pub loop-k-preserved : goal.loop-k-preserved
loop-k-preserved c =
    let wide = c.args.wide.now in
    let b = row_place wide c.len-k-end.result c.loop-k.k c.len-k-end.ensures c.loop-k-test.true in
    let is = column_is wide c.loop-k.k c.index-entry.result.now b c.index-entry.ensures in
    let m : ℤ = c.in-Some-over_denominator.numerator in
    let m_fits : FitsSigned w64 m = search rules in
    filled_more wide c.args.row.now c.loop-k.row c.put.new.self c.in-Some.den c.loop-k.k
    c.index-entry.result.now.column m c.loop-k.invariant c.requires b is
    (c.in-Some-over_denominator.ensures.0 ∙ ap (λ v. over_num v c.in-Some.den)
    (value_is wide c.loop-k.k c.index-entry.result.now b c.index-entry.ensures))
    c.put.ensures.den c.put.ensures.width
    (c.put.ensures.here ∙ to_z-of_z w64 m m_fits) c.put.ensures.elsewhere

pub returns-clause-numbers : goal.returns-clause-numbers
returns-clause-numbers c t j b =
    let wide = c.args.wide.now in
    filled_all wide c.args.row.now c.loop-k.row c.in-Some.den c.loop-k.k c.loop-k.invariant
    (length wide.entries.items)
    (subst (λ l. IsDenominator (values_in l) (length l) c.in-Some.den) c.deref.ensures.value
    c.in-Some.ensures)
    (columns_long wide)
    (row_end wide c.len-k-end.result c.loop-k.k c.len-k-end.ensures c.loop-k.auto.k-end
    c.loop-k-test.false) j b
