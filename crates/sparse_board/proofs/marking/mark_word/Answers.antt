use Rattle.std.proofs.Common.{◌≡◌, ◌+◌, ◌<◌, ◌∙◌, arith, slice_index, subst, sym}
use Rattle.std.proofs.lemmas.List.{get_or_default}
use Rattle.sparse_board.specs.Marks.{IsWordJoined}
use Rattle.whole_rows.specs.Rows as whole
use Rattle.sparse_board.proofs.MarkingSteps.{keep_none}
use Rattle.sparse_board.proofs.WordMarkSteps.{listed_below, narrow_kept, narrow_marked, no_word_marked, word_marked_more, word_marked_none}
use Rattle.sparse_board.proofs.marking.mark_word.Goals as goal
use Rattle.sparse_board.proofs.marking.mark_word.Goals.{After-index, After-join_word-2}

column_is : (c : After-index) → c.index.result.now ≡ slice_index c.args.step.now.columns.items c.loop-n.n
column_is c =
    c.index.ensures
    ∙ get_or_default c.args.step.now.columns.items c.loop-n.n c.index.result.now 0
    (omega (arith, c.loop-n-test.true, c.args.step.now.fits))

pub returns-then-word-eq0-clause-kept : goal.returns-then-word-eq0-clause-kept
returns-then-word-eq0-clause-kept c = keep_none c.args.marks.now

pub returns-then-word-eq0-clause-marked : goal.returns-then-word-eq0-clause-marked
returns-then-word-eq0-clause-marked c =
    no_word_marked (whole.width_of c.args.step.now.row + 1) c.args.k c.args.word
    (whole.number_of c.args.step.now.row) c.args.marks.now c.if-word-eq0.true

pub loop-n-init : goal.loop-n-init
loop-n-init c =
    word_marked_none c.args.step.now.columns.items c.args.k c.args.word c.args.marks.now

pub join_word-requires-clause-column : goal.join_word-requires-clause-column
join_word-requires-clause-column c =
    let step = c.args.step.now in
    let below = listed_below step c.loop-n.n c.loop-n-test.true in
    subst (λ m. c.index.result.now < m)
    (sym (c.loop-n.invariant.keep.sizes.columns ∙ c.requires.columns))
    (subst (λ m. m < whole.width_of step.row + 1)
    (sym (column_is (goal.at.join_word-requires-clause-column c).After-index))
    (omega (arith, below)))

pub join_word-requires-clause-place : goal.join_word-requires-clause-place
join_word-requires-clause-place c =
    omega (arith, c.loop-n.invariant.keep.sizes.rows, c.requires.place)

pub join_word-requires-2-clause-column : goal.join_word-requires-2-clause-column
join_word-requires-2-clause-column c =
    omega (
      arith,
      c.loop-n.invariant.keep.sizes.columns,
      c.requires.columns,
      c.len.ensures,
      c.args.step.now.row.numbers.ok.0,
    )

pub join_word-requires-2-clause-place : goal.join_word-requires-2-clause-place
join_word-requires-2-clause-place c =
    omega (arith, c.loop-n.invariant.keep.sizes.rows, c.requires.place)

pub loop-n-preserved : goal.loop-n-preserved
loop-n-preserved c =
    word_marked_more c.args.step.now.columns.items c.args.k c.args.word c.args.marks.now
    c.loop-n.marks c.join_word.new.self c.loop-n.n c.loop-n.invariant
    (subst (λ j. IsWordJoined j c.args.k c.args.word c.loop-n.marks c.join_word.new.self)
    (column_is (goal.at.loop-n-preserved c).After-index) c.join_word.ensures)

-- the column of right sides is joined
side_joined : (c : After-join_word-2)
    → IsWordJoined (whole.width_of c.args.step.now.row) c.args.k c.args.word c.loop-n.marks
    c.join_word-2.new.self
side_joined c =
    subst (λ m. IsWordJoined m c.args.k c.args.word c.loop-n.marks c.join_word-2.new.self)
    (c.len.ensures ∙ c.args.step.now.row.numbers.ok.0) c.join_word-2.ensures

pub returns-clause-kept : goal.returns-clause-kept
returns-clause-kept c =
    narrow_kept c.args.step.now c.args.k c.args.word c.args.marks.now c.loop-n.marks
    c.join_word-2.new.self c.loop-n.n
    (omega (arith, c.loop-n.auto.n-end, c.loop-n-test.false)) c.loop-n.invariant
    (side_joined (goal.at.returns-clause-kept c).After-join_word-2)

pub returns-clause-marked : goal.returns-clause-marked
returns-clause-marked c =
    narrow_marked c.args.step.now c.args.k c.args.word c.args.marks.now c.loop-n.marks
    c.join_word-2.new.self c.loop-n.n
    (omega (arith, c.loop-n.auto.n-end, c.loop-n-test.false)) c.loop-n.invariant
    (side_joined (goal.at.returns-clause-marked c).After-join_word-2)
