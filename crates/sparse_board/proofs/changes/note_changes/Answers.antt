use Rattle.std.proofs.Common.{◌≡◌, ◌+◌, ◌<◌, ◌≤◌, ◌∙◌, arith, length, subst, sym, ℕ}
use Rattle.std.specs.Prelude.{◌*◌, ◌/◌, ◌^◌, min}
use Rattle.sparse_board.specs.Changes.{AreChangesNoted}
use Rattle.sparse_board.proofs.ChangeSteps.{noted_all, noted_none, unset_zero}
use Rattle.sparse_board.proofs.MarkingSteps.{unmarked_more, unmarked_none}
use Rattle.sparse_board.proofs.changes.note_changes.Goals as goal

none_lem : (n : ℕ) → 0 ≡ min (0 * 64) n
none_lem n = omega arith

here_lem : (k n : ℕ) → k * 64 ≤ n → min (k * 64) n ≡ k * 64
here_lem k n h = omega (arith, h)

next_lem : (k n : ℕ) → min (k * 64 + 64) n ≡ min ((k + 1) * 64) n
next_lem k n = omega arith

all_lem : (k s n : ℕ) → s ≡ n / 64 + 1 → s ≤ k → min (k * 64) n ≡ n
all_lem k s n e h = omega (arith, e, h)

pub loop-k-init : goal.loop-k-init
loop-k-init c = record {
  keeps = unmarked_none c.args.rows.now c.args.marks.now;
  noted = subst (AreChangesNoted c.args.rows.now c.args.r c.args.q c.args.listed.now 0)
      (none_lem (length c.args.rows.now))
      (noted_none c.args.rows.now c.args.r c.args.q c.args.listed.now c.requires.room);
}

pub word-word-requires-clause-column : goal.word-word-requires-clause-column
word-word-requires-clause-column c =
    subst (λ n. c.args.q < n) (sym c.loop-k.invariant.keeps.sizes.columns) c.requires.column

pub word-word-requires-clause-place : goal.word-word-requires-clause-place
word-word-requires-clause-place c =
    omega (arith, c.loop-k.invariant.keeps.sizes.rows, c.stride-k-end.ensures, c.loop-k-test.true)

pub note_bits-noted-requires-clause-start : goal.note_bits-noted-requires-clause-start
note_bits-noted-requires-clause-start c =
    omega (arith, c.requires.rows, c.stride-k-end.ensures, c.loop-k-test.true)

pub note_bits-noted-requires-clause-few : goal.note_bits-noted-requires-clause-few
note_bits-noted-requires-clause-few c =
    subst (λ n. n < 2 ^ 32) c.requires.rows c.args.marks.now.few

pub note_bits-noted-requires-clause-others : goal.note_bits-noted-requires-clause-others
note_bits-noted-requires-clause-others c =
    unset_zero c.args.rows.now c.loop-k.marks c.args.marks.now.columns c.args.q c.loop-k.k
    c.word-word.result
    (c.loop-k.invariant.keeps.marked c.args.marks.now.columns c.requires.marked) c.requires.column
    (c.loop-k.invariant.keeps.sizes.rows ∙ c.requires.rows) c.word-word.ensures

pub note_bits-noted-requires-clause-noted : goal.note_bits-noted-requires-clause-noted
note_bits-noted-requires-clause-noted c =
    let start : c.loop-k.k * 64 ≤ length c.args.rows.now =
    omega (arith, c.requires.rows, c.stride-k-end.ensures, c.loop-k-test.true) in
    subst (AreChangesNoted c.args.rows.now c.args.r c.args.q c.loop-k.listed c.loop-k.count)
    (here_lem c.loop-k.k (length c.args.rows.now) start) c.loop-k.invariant.noted

pub set_word-requires-clause-column : goal.set_word-requires-clause-column
set_word-requires-clause-column c =
    subst (λ n. c.args.q < n) (sym c.loop-k.invariant.keeps.sizes.columns) c.requires.column

pub set_word-requires-clause-place : goal.set_word-requires-clause-place
set_word-requires-clause-place c =
    omega (arith, c.loop-k.invariant.keeps.sizes.rows, c.stride-k-end.ensures, c.loop-k-test.true)

pub loop-k-preserved : goal.loop-k-preserved
loop-k-preserved c = record {
  keeps = unmarked_more c.args.rows.now c.args.marks.now c.loop-k.marks c.set_word.new.self
      c.args.q c.loop-k.k c.word-word.result c.note_bits-noted.result.kept
      c.loop-k.invariant.keeps (c.loop-k.invariant.keeps.sizes.rows ∙ c.requires.rows)
      c.word-word.ensures c.set_word.ensures c.note_bits-noted.ensures.clears;
  noted = subst (AreChangesNoted c.args.rows.now c.args.r c.args.q c.note_bits-noted.new.listed
      c.note_bits-noted.result.count) (next_lem c.loop-k.k (length c.args.rows.now))
      c.note_bits-noted.ensures.noted;
}

pub returns-clause-sizes : goal.returns-clause-sizes
returns-clause-sizes c = c.loop-k.invariant.keeps.sizes

pub returns-clause-marked : goal.returns-clause-marked
returns-clause-marked c = c.loop-k.invariant.keeps.marked

pub returns-clause-within : goal.returns-clause-within
returns-clause-within c =
    omega (
      arith,
      c.loop-k.invariant.noted.few,
      c.loop-k.invariant.noted.row_end,
      c.loop-k.invariant.noted.room,
    )

pub returns-clause-lists : goal.returns-clause-lists
returns-clause-lists c =
    noted_all c.args.rows.now c.args.r c.args.q c.loop-k.listed c.loop-k.count _
    c.loop-k.invariant.noted
    (all_lem c.loop-k.k c.stride-k-end.result (length c.args.rows.now)
    (subst (λ n. c.stride-k-end.result ≡ n / 64 + 1) c.requires.rows c.stride-k-end.ensures)
    (omega (arith, c.loop-k-test.false)))
