use Rattle.std.proofs.Common.{◌≡◌, ◌+◌, ◌<◌, ◌∙◌, Bool, IsTrue, ap, arith, false, length, not, refl, subst, sym, true, true≢false}
use Rattle.ratio_core.specs.Rational.{zero_ℚ}
use Rattle.simplex_form.specs.Turns.{is_below}
use Rattle.sparse_board.specs.Leaving.{may_leave}
use Rattle.sparse_board.specs.Rows.{numbers}
use Rattle.sparse_board.proofs.RowsSteps.{row_is, row_wide}
use Rattle.sparse_board.proofs.WordSteps.{IsBitAfter, bit_cleared, left_all, left_first, left_more, looked_all, looked_first, looked_more, lowest_above, next_first, next_lowest}
use Rattle.sparse_board.proofs.leaving.positive_bits.Goals as goal
use Rattle.sparse_board.proofs.leaving.positive_bits.Goals.{After-next_bit-bit-in-loop-bit}

-- the bit that comes after the one that was looked at
bit_lem : (c : After-next_bit-bit-in-loop-bit) → IsBitAfter c.args.word c.loop-bit.bit
    c.without_lowest-rest.result c.next_bit-bit-in-loop-bit.result
bit_lem c =
    bit_cleared c.args.word c.loop-bit.rest c.loop-bit.bit c.loop-bit.invariant.next
    (omega (arith, c.loop-bit-test.true, c.word_end-end.ensures)) c.without_lowest-rest.result
    c.next_bit-bit-in-loop-bit.result c.without_lowest-rest.ensures.cleared
    c.next_bit-bit-in-loop-bit.ensures.passed c.next_bit-bit-in-loop-bit.ensures.set

pub without_lowest-rest-requires : goal.without_lowest-rest-requires
without_lowest-rest-requires c =
    lowest_above c.loop-bit.rest c.loop-bit.bit
    (next_lowest c.args.word c.loop-bit.rest c.loop-bit.bit c.loop-bit.invariant.next
    (omega (arith, c.loop-bit-test.true, c.word_end-end.ensures)))

pub loop-bit-smaller : goal.loop-bit-smaller
loop-bit-smaller c =
    omega (
      arith,
      (bit_lem (goal.at.loop-bit-smaller c).After-next_bit-bit-in-loop-bit).after,
      c.loop-bit-test.true,
      c.word_end-end.ensures,
    )

not_true : (b : Bool) → not b ≡ true → b ≡ false
not_true true e = absurd (true≢false (sym e))
not_true false e = refl

not_false : (b : Bool) → not b ≡ false → b ≡ true
not_false true e = refl
not_false false e = absurd (true≢false e)

pub loop-bit-init : goal.loop-bit-init
loop-bit-init c = record {
  looked = looked_first (λ i. may_leave c.args.rows.now c.args.q i ≡ false) (length c.args.rows.now)
      c.args.start c.args.word c.next_bit-bit.result c.next_bit-bit.ensures.passed;
  left = left_first (λ i. IsTrue (may_leave c.args.rows.now c.args.q i)) (length c.args.rows.now)
      c.args.start c.args.word c.next_bit-bit.result c.next_bit-bit.ensures.passed;
  next = next_first c.args.word c.next_bit-bit.result c.next_bit-bit.ensures.passed
      c.next_bit-bit.ensures.set;
}

pub is_entry_positive-is_positive-requires : goal.is_entry_positive-is_positive-requires
is_entry_positive-is_positive-requires c =
    let place = c.args.start + c.loop-bit.bit in
    let below : place < length c.args.rows.now =
    omega (arith, c.loop-bit-test.true, c.word_end-end.ensures) in
    subst (λ n. c.args.q + 1 < n)
    (sym (row_wide (c.args.side + 1) c.args.rows.now place c.index-rows-i.result c.requires.wide
    below)) (omega (arith, c.requires.column))

pub loop-bit-preserved : goal.loop-bit-preserved
loop-bit-preserved c =
    let rows = c.args.rows.now in
    let place = c.args.start + c.loop-bit.bit in
    let below : place < length rows =
    omega (arith, c.loop-bit-test.true, c.word_end-end.ensures) in
    let next = bit_lem (goal.at.loop-bit-preserved c).After-next_bit-bit-in-loop-bit in
    let is : may_leave rows c.args.q place ≡ c.is_entry_positive-is_positive.result =
    ap (λ o. is_below zero_ℚ (numbers o c.args.q))
    (row_is rows place c.index-rows-i.result below)
    ∙ sym c.is_entry_positive-is_positive.ensures.value in
    record {
      looked = looked_more (λ i. may_leave rows c.args.q i ≡ false) (length rows) c.args.start
          c.args.word c.loop-bit.kept c.loop-bit.bit c.loop-bit.invariant.looked
          c.without_bit_if-kept.result c.next_bit-bit-in-loop-bit.result
          (not c.is_entry_positive-is_positive.result) next.after
          (λ e. is ∙ not_true c.is_entry_positive-is_positive.result e)
          c.without_bit_if-kept.ensures.kept c.without_bit_if-kept.ensures.others
          next.passed;
      left = left_more (λ i. IsTrue (may_leave rows c.args.q i))
          (λ i. may_leave rows c.args.q i ≡ false) (length rows) c.args.start c.args.word
          c.loop-bit.kept c.loop-bit.bit c.loop-bit.invariant.left c.loop-bit.invariant.looked
          c.without_bit_if-kept.result c.next_bit-bit-in-loop-bit.result
          (not c.is_entry_positive-is_positive.result)
          (λ e. is ∙ not_false c.is_entry_positive-is_positive.result e)
          c.without_bit_if-kept.ensures.cleared c.without_bit_if-kept.ensures.others next.passed;
      next = next.next_bit;
    }

pub returns-clause-left : goal.returns-clause-left
returns-clause-left c =
    left_all (λ i. IsTrue (may_leave c.args.rows.now c.args.q i))
    (λ i. may_leave c.args.rows.now c.args.q i ≡ false) (length c.args.rows.now) c.args.start
    c.args.word c.loop-bit.kept c.loop-bit.bit c.loop-bit.invariant.left
    c.loop-bit.invariant.looked c.word_end-end.result c.requires.start c.word_end-end.ensures
    (omega (arith, c.loop-bit-test.false))

pub returns-clause-clears : goal.returns-clause-clears
returns-clause-clears c =
    looked_all (λ i. may_leave c.args.rows.now c.args.q i ≡ false) (length c.args.rows.now)
    c.args.start c.args.word c.loop-bit.kept c.loop-bit.bit c.loop-bit.invariant.looked
    c.word_end-end.result c.requires.start c.word_end-end.ensures
    (omega (arith, c.loop-bit-test.false))
