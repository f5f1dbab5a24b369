use Rattle.std.proofs.Common.{◌≡◌, ◌+◌, ◌<◌, ◌∙◌, Some, arith, if◌then◌else◌, length, subst, sym, ℕ}
use Rattle.std.specs.Prelude.{◌-◌, ◌≤◌, min}
use Rattle.sparse_board.specs.Leaving.{IsBestTo}
use Rattle.sparse_board.proofs.LeavingSteps.{best_bits, best_with}
use Rattle.sparse_board.proofs.WordSteps.{IsBitAfter, bit_cleared, lowest_above, next_first, next_lowest}
use Rattle.sparse_board.proofs.leaving.leaving_in.Goals as goal
use Rattle.sparse_board.proofs.leaving.leaving_in.Goals.{After-next_bit-bit-in-loop-bit, then-leaves_first, else-leaves_first}

-- the bit that comes after the one that was looked at
bit_lem : (c : After-next_bit-bit-in-loop-bit) → IsBitAfter c.args.word c.loop-bit.bit
    c.without_lowest-rest.result c.next_bit-bit-in-loop-bit.result
bit_lem c =
    bit_cleared c.args.word c.loop-bit.rest c.loop-bit.bit c.loop-bit.invariant.next
    (omega (arith, c.loop-bit-test.true, c.word_end-end.ensures)) c.without_lowest-rest.result
    c.next_bit-bit-in-loop-bit.result c.without_lowest-rest.ensures.cleared
    c.next_bit-bit-in-loop-bit.ensures.passed c.next_bit-bit-in-loop-bit.ensures.set

pub without_lowest-rest-requires : goal.without_lowest-rest-requires
without_lowest-rest-requires c =
    lowest_above c.loop-bit.rest c.loop-bit.bit
    (next_lowest c.args.word c.loop-bit.rest c.loop-bit.bit c.loop-bit.invariant.next
    (omega (arith, c.loop-bit-test.true, c.word_end-end.ensures)))

pub loop-bit-smaller : goal.loop-bit-smaller
loop-bit-smaller c =
    omega (
      arith,
      (bit_lem (goal.at.loop-bit-smaller c).After-next_bit-bit-in-loop-bit).after,
      c.loop-bit-test.true,
      c.word_end-end.ensures,
    )

-- the row of a bit that is set may leave
pub leaves_first-requires-clause-may_leave : goal.leaves_first-requires-clause-may_leave
leaves_first-requires-clause-may_leave c =
    let small : c.loop-bit.bit < 64 =
    omega (arith, c.loop-bit-test.true, c.word_end-end.ensures) in
    c.requires.left c.loop-bit.bit small
    (omega (arith, c.loop-bit-test.true, c.word_end-end.ensures))
    (sym (c.loop-bit.invariant.next.left.same c.loop-bit.bit (omega arith))
    ∙ c.loop-bit.invariant.next.set small)

none_lem : (s e : ℕ) → s ≡ s + min 0 e
none_lem s e = omega arith

here_lem : (s b e : ℕ) → b < e → s + min b e ≡ s + b
here_lem s b e h = omega (arith, h)

next_lem : (s b e : ℕ) → b < e → s + b + 1 ≡ s + min (b + 1) e
next_lem s b e h = omega (arith, h)

end_lem : (s b e l : ℕ) → e ≤ b → e ≡ min 64 (l - s) → s ≤ l → s + min b e ≡ min (s + 64) l
end_lem s b e l h i w = omega (arith, h, i, w)

pub loop-bit-init : goal.loop-bit-init
loop-bit-init c = record {
  best = best_bits c.args.rows.now c.args.basis.now c.args.side c.args.q c.args.start c.args.word 0
      c.next_bit-bit.result c.word_end-end.result c.args.first
      (subst (λ n. IsBestTo c.args.rows.now c.args.basis.now c.args.side c.args.q n c.args.first)
      (none_lem c.args.start c.word_end-end.result) c.requires.first)
      (omega arith) c.requires.start c.word_end-end.ensures c.next_bit-bit.ensures.passed
      c.requires.others;
  next = next_first c.args.word c.next_bit-bit.result c.next_bit-bit.ensures.passed
      c.next_bit-bit.ensures.set;
}

pub loop-bit-preserved : goal.loop-bit-preserved
loop-bit-preserved c =
    let rows = c.args.rows.now in
    let basis = c.args.basis.now in
    let side = c.args.side in
    let q = c.args.q in
    let bit = c.loop-bit.bit in
    let end = c.word_end-end.result in
    let i = c.args.start + bit in
    let within : i < length rows =
    omega (arith, c.loop-bit-test.true, c.word_end-end.ensures) in
    let before : IsBestTo rows basis side q i c.loop-bit.best =
    subst (λ n. IsBestTo rows basis side q n c.loop-bit.best)
    (here_lem c.args.start bit end c.loop-bit-test.true) c.loop-bit.invariant.best in
    let here : IsBestTo rows basis side q (i + 1) c.if-leaves_first.best =
    elim c.if-leaves_first.branch [
      | then-leaves_first k ↦
          best_with rows basis side q i c.loop-bit.best c.if-leaves_first.best
          c.leaves_first.result before within c.leaves_first.ensures.value
          c.leaves_first.ensures.candidate
          (k.best-is ∙ (λ z. if sym k.if-leaves_first.true z then Some i else c.loop-bit.best))
      | else-leaves_first k ↦
          best_with rows basis side q i c.loop-bit.best c.if-leaves_first.best
          c.leaves_first.result before within c.leaves_first.ensures.value
          c.leaves_first.ensures.candidate
          (k.best-is ∙ (λ z. if sym k.if-leaves_first.false z then Some i else c.loop-bit.best))
    ] in
    let next = bit_lem (goal.at.loop-bit-preserved c).After-next_bit-bit-in-loop-bit in
    record {
      best = best_bits rows basis side q c.args.start c.args.word (bit + 1) c.next_bit-bit-in-loop-bit.result end
          c.if-leaves_first.best
          (subst (λ n. IsBestTo rows basis side q n c.if-leaves_first.best)
          (next_lem c.args.start bit end c.loop-bit-test.true) here)
          (omega (arith, next.after)) c.requires.start c.word_end-end.ensures
          (λ k f t. next.passed k (omega (arith, f)) t) c.requires.others;
      next = next.next_bit;
    }

pub returns : goal.returns
returns c =
    subst (λ n. IsBestTo c.args.rows.now c.args.basis.now c.args.side c.args.q n c.loop-bit.best)
    (end_lem c.args.start c.loop-bit.bit c.word_end-end.result (length c.args.rows.now)
    (omega (arith, c.loop-bit-test.false)) c.word_end-end.ensures c.requires.start)
    c.loop-bit.invariant.best
