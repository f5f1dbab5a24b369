use Rattle.std.proofs.Common.{◌≡◌, ◌+◌, ◌<◌, ◌∙◌, ap, arith, length, subst, sym, true≢false, ℕ}
use Rattle.std.proofs.lemmas.Bool.{eq-eqb}
use Rattle.std.specs.Prelude.{◌-◌, ◌≤◌, IsTrue, min}
use Rattle.ratio_core.specs.Rational.{zero_ℚ}
use Rattle.sparse_board.specs.Changes.{AreChangesNoted}
use Rattle.sparse_board.specs.Rows.{number_in_row, numbers}
use Rattle.sparse_board.proofs.ChangeSteps.{noted_bits, noted_next, other_row}
use Rattle.sparse_board.proofs.RowsSteps.{row_is}
use Rattle.sparse_board.proofs.WordSteps.{IsBitAfter, bit_cleared, looked_all, looked_first, looked_more, lowest_above, next_first, next_lowest}
use Rattle.sparse_board.proofs.changes.note_bits.Goals as goal
use Rattle.sparse_board.proofs.changes.note_bits.Goals.{After-next_bit-bit-in-loop-bit}

-- the bit that comes after the one that was looked at
bit_lem : (c : After-next_bit-bit-in-loop-bit) → IsBitAfter c.args.word c.loop-bit.bit
    c.without_lowest-rest.result c.next_bit-bit-in-loop-bit.result
bit_lem c =
    bit_cleared c.args.word c.loop-bit.rest c.loop-bit.bit c.loop-bit.invariant.next
    (omega (arith, c.loop-bit-test.true, c.word_end-end.ensures)) c.without_lowest-rest.result
    c.next_bit-bit-in-loop-bit.result c.without_lowest-rest.ensures.cleared
    c.next_bit-bit-in-loop-bit.ensures.passed c.next_bit-bit-in-loop-bit.ensures.set

pub without_lowest-rest-requires : goal.without_lowest-rest-requires
without_lowest-rest-requires c =
    lowest_above c.loop-bit.rest c.loop-bit.bit
    (next_lowest c.args.word c.loop-bit.rest c.loop-bit.bit c.loop-bit.invariant.next
    (omega (arith, c.loop-bit-test.true, c.word_end-end.ensures)))

pub loop-bit-smaller : goal.loop-bit-smaller
loop-bit-smaller c =
    omega (
      arith,
      (bit_lem (goal.at.loop-bit-smaller c).After-next_bit-bit-in-loop-bit).after,
      c.loop-bit-test.true,
      c.word_end-end.ensures,
    )

none_lem : (s e : ℕ) → s ≡ s + min 0 e
none_lem s e = omega arith

here_lem : (s b e : ℕ) → b < e → s + min b e ≡ s + b
here_lem s b e h = omega (arith, h)

next_lem : (s b e : ℕ) → b < e → s + b + 1 ≡ s + min (b + 1) e
next_lem s b e h = omega (arith, h)

end_lem : (s b e l : ℕ) → e ≤ b → e ≡ min 64 (l - s) → s ≤ l → s + min b e ≡ min (s + 64) l
end_lem s b e l h i w = omega (arith, h, i, w)

pub loop-bit-init : goal.loop-bit-init
loop-bit-init c = record {
  looked = looked_first (λ i. number_in_row c.args.rows.now i c.args.q ≡ zero_ℚ) (length c.args.rows.now)
      c.args.start c.args.word c.next_bit-bit.result c.next_bit-bit.ensures.passed;
  next = next_first c.args.word c.next_bit-bit.result c.next_bit-bit.ensures.passed
      c.next_bit-bit.ensures.set;
  noted = noted_bits c.args.rows.now c.args.r c.args.q c.args.listed.now c.args.before c.args.start
      c.args.word 0 c.next_bit-bit.result c.word_end-end.result
      (subst (AreChangesNoted c.args.rows.now c.args.r c.args.q c.args.listed.now c.args.before)
      (none_lem c.args.start c.word_end-end.result) c.requires.noted)
      (omega arith) c.requires.start c.word_end-end.ensures c.next_bit-bit.ensures.passed
      c.requires.others;
}

pub loop-bit-preserved : goal.loop-bit-preserved
loop-bit-preserved c =
    let rows = c.args.rows.now in
    let bit = c.loop-bit.bit in
    let end = c.word_end-end.result in
    let place = c.args.start + bit in
    let below : place < length rows =
    omega (arith, c.loop-bit-test.true, c.word_end-end.ensures) in
    let next = bit_lem (goal.at.loop-bit-preserved c).After-next_bit-bit-in-loop-bit in
    let zero : IsTrue c.is_zero_at-is_zero.result → number_in_row rows place c.args.q ≡ zero_ℚ =
    λ e. ap (λ o. numbers o c.args.q) (row_is rows place c.index-rows-i.result below)
    ∙ c.is_zero_at-is_zero.ensures e in
    let before : AreChangesNoted rows c.args.r c.args.q c.loop-bit.listed c.loop-bit.count place =
    subst (AreChangesNoted rows c.args.r c.args.q c.loop-bit.listed c.loop-bit.count)
    (here_lem c.args.start bit end c.loop-bit-test.true) c.loop-bit.invariant.noted in
    record {
      looked = looked_more (λ i. number_in_row rows i c.args.q ≡ zero_ℚ) (length rows) c.args.start
          c.args.word c.loop-bit.kept bit c.loop-bit.invariant.looked
          c.without_bit_if-kept.result c.next_bit-bit-in-loop-bit.result c.is_zero_at-is_zero.result
          next.after zero
          c.without_bit_if-kept.ensures.kept c.without_bit_if-kept.ensures.others
          next.passed;
      next = next.next_bit;
      noted = noted_bits rows c.args.r c.args.q _ _ c.args.start c.args.word (bit + 1)
          c.next_bit-bit-in-loop-bit.result end
          (subst (AreChangesNoted rows c.args.r c.args.q _ _)
          (next_lem c.args.start bit end c.loop-bit-test.true)
          (noted_next rows c.args.r c.args.q c.loop-bit.listed c.loop-bit.count place
          c.change_count-more.result before below c.change_count-more.ensures.few
          (other_row rows c.args.r c.args.q place c.is_zero_at-is_zero.result
          c.change_count-more.result zero c.change_count-more.ensures.none)
          (λ e f. true≢false (sym (eq-eqb place c.args.r f) ∙ c.change_count-more.ensures.one e))))
          (omega (arith, next.after)) c.requires.start c.word_end-end.ensures
          (λ k f t. next.passed k (omega (arith, f)) t) c.requires.others;
    }

pub returns-clause-clears : goal.returns-clause-clears
returns-clause-clears c =
    looked_all (λ i. number_in_row c.args.rows.now i c.args.q ≡ zero_ℚ) (length c.args.rows.now)
    c.args.start c.args.word c.loop-bit.kept c.loop-bit.bit c.loop-bit.invariant.looked
    c.word_end-end.result c.requires.start c.word_end-end.ensures
    (omega (arith, c.loop-bit-test.false))

pub returns-clause-noted : goal.returns-clause-noted
returns-clause-noted c =
    subst (AreChangesNoted c.args.rows.now c.args.r c.args.q c.loop-bit.listed c.loop-bit.count)
    (end_lem c.args.start c.loop-bit.bit c.word_end-end.result (length c.args.rows.now)
    (omega (arith, c.loop-bit-test.false)) c.word_end-end.ensures c.requires.start)
    c.loop-bit.invariant.noted
