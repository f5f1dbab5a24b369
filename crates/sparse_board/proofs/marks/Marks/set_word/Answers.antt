use Rattle.std.proofs.Common.{arith, refl}
use Rattle.sparse_board.proofs.MarkSteps.{word_place, word_put}
use Rattle.sparse_board.proofs.marks.Marks.set_word.Goals as goal

pub overflow_mul-place : goal.overflow_mul-place
overflow_mul-place c =
    let marks = c.args.self.now in
    omega (
      arith,
      word_place marks c.args.column c.args.k c.requires.column c.requires.place,
      marks.words.ok.1,
      marks.words.small,
    )

pub overflow_add-place : goal.overflow_add-place
overflow_add-place c =
    let marks = c.args.self.now in
    omega (
      arith,
      word_place marks c.args.column c.args.k c.requires.column c.requires.place,
      marks.words.ok.1,
      marks.words.small,
    )

pub index_mut-requires : goal.index_mut-requires
index_mut-requires c =
    word_place c.args.self.now c.args.column c.args.k c.requires.column c.requires.place

pub returns : goal.returns
returns c =
    word_put c.args.self.now _ c.args.column c.args.k c.args.word
    (record { columns = refl; rows = refl }) refl refl c.requires.column c.requires.place
