use Rattle.std.proofs.Common.{◌≡◌, ◌+◌, ◌≤◌, None, arith, length, subst, ℕ}
use Rattle.std.specs.Prelude.{◌*◌, ◌/◌, min}
use Rattle.simplex_form.specs.Search.{best_below}
use Rattle.sparse_board.specs.Leaving.{IsBestTo, leaves_before, may_leave}
use Rattle.sparse_board.proofs.LeavingSteps.{best_none, cleared_none}
use Rattle.sparse_board.proofs.leaving.leaving.Goals as goal

none_lem : (n : ℕ) → 0 ≡ min (0 * 64) n
none_lem n = omega arith

here_lem : (k n : ℕ) → k * 64 ≤ n → min (k * 64) n ≡ k * 64
here_lem k n h = omega (arith, h)

next_lem : (k n : ℕ) → min (k * 64 + 64) n ≡ min ((k + 1) * 64) n
next_lem k n = omega arith

all_lem : (k s n : ℕ) → s ≡ n / 64 + 1 → s ≤ k → min (k * 64) n ≡ n
all_lem k s n e h = omega (arith, e, h)

pub loop-k-init : goal.loop-k-init
loop-k-init c =
    subst (λ n. IsBestTo c.args.rows.now c.args.basis.now c.args.side c.args.q n None)
    (none_lem (length c.args.rows.now))
    (best_none c.args.rows.now c.args.basis.now c.args.side c.args.q)

pub word-requires-clause-column : goal.word-requires-clause-column
word-requires-clause-column c = omega (arith, c.requires.columns, c.requires.column)

pub word-requires-clause-place : goal.word-requires-clause-place
word-requires-clause-place c = omega (arith, c.stride-k-end.ensures, c.loop-k-test.true)

pub positive_bits-word-requires-clause-start : goal.positive_bits-word-requires-clause-start
positive_bits-word-requires-clause-start c =
    omega (arith, c.requires.count, c.stride-k-end.ensures, c.loop-k-test.true)

pub leaving_in-best-requires-clause-start : goal.leaving_in-best-requires-clause-start
leaving_in-best-requires-clause-start c =
    omega (arith, c.requires.count, c.stride-k-end.ensures, c.loop-k-test.true)

pub leaving_in-best-requires-clause-others : goal.leaving_in-best-requires-clause-others
leaving_in-best-requires-clause-others c =
    cleared_none c.args.rows.now c.args.marks.now (c.args.side + 1) c.args.q c.loop-k.k
    c.word.result c.positive_bits-word.result c.requires.marked
    (omega (arith, c.requires.column)) c.requires.count c.word.ensures
    c.positive_bits-word.ensures.clears

pub leaving_in-best-requires-clause-left : goal.leaving_in-best-requires-clause-left
leaving_in-best-requires-clause-left c = c.positive_bits-word.ensures.left

pub leaving_in-best-requires-clause-first : goal.leaving_in-best-requires-clause-first
leaving_in-best-requires-clause-first c =
    let start : c.loop-k.k * 64 ≤ length c.args.rows.now =
    omega (arith, c.requires.count, c.stride-k-end.ensures, c.loop-k-test.true) in
    subst (λ n. IsBestTo c.args.rows.now c.args.basis.now c.args.side c.args.q n c.loop-k.best)
    (here_lem c.loop-k.k (length c.args.rows.now) start) c.loop-k.invariant

pub loop-k-preserved : goal.loop-k-preserved
loop-k-preserved c =
    subst (λ n. IsBestTo c.args.rows.now c.args.basis.now c.args.side c.args.q n
    c.leaving_in-best.result) (next_lem c.loop-k.k (length c.args.rows.now)) c.leaving_in-best.ensures

pub returns-clause-value : goal.returns-clause-value
returns-clause-value c =
    let rows = c.args.rows.now in
    let all : min (c.loop-k.k * 64) (length rows) ≡ length rows =
    all_lem c.loop-k.k c.stride-k-end.result (length rows)
    (subst (λ n. c.stride-k-end.result ≡ n / 64 + 1) c.requires.count c.stride-k-end.ensures)
    (omega (arith, c.loop-k-test.false)) in
    subst (λ n. c.loop-k.best ≡ best_below n (may_leave rows c.args.q)
    (leaves_before rows c.args.basis.now c.args.side c.args.q)) all c.loop-k.invariant.value

pub returns-clause-candidate : goal.returns-clause-candidate
returns-clause-candidate c = c.loop-k.invariant.candidate
