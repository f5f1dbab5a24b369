use Rattle.std.proofs.Common.{◌+◌, ◌*◌, arith}
use Rattle.std.proofs.lemmas.List.{get_or_read}
use Rattle.sparse_board.proofs.MarkSteps.{item_within, word_place, word_read}
use Rattle.sparse_board.proofs.marks.Marks.word.Goals as goal

pub overflow_mul-place : goal.overflow_mul-place
overflow_mul-place c =
    let marks = c.args.self.now in
    omega (
      arith,
      word_place marks c.args.column c.args.k c.requires.column c.requires.place,
      marks.words.ok.1,
      marks.words.small,
    )

pub overflow_add-place : goal.overflow_add-place
overflow_add-place c =
    let marks = c.args.self.now in
    omega (
      arith,
      word_place marks c.args.column c.args.k c.requires.column c.requires.place,
      marks.words.ok.1,
      marks.words.small,
    )

pub index-requires : goal.index-requires
index-requires c =
    word_place c.args.self.now c.args.column c.args.k c.requires.column c.requires.place

pub returns : goal.returns
returns c =
    let marks = c.args.self.now in
    let place = c.args.column * marks.stride + c.args.k in
    let read = get_or_read marks.words.items place c.index.result.now
    (item_within marks place (word_place marks c.args.column c.args.k c.requires.column
    c.requires.place)) c.index.ensures 0 in
    word_read marks c.args.column c.args.k c.index.result.now read
