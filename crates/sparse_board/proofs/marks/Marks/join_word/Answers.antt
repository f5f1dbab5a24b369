use Rattle.std.proofs.Common.{refl}
use Rattle.sparse_board.proofs.MarkSteps.{word_joined}
use Rattle.sparse_board.proofs.marks.Marks.join_word.Goals as goal

pub returns : goal.returns
returns c =
    word_joined c.args.self.now c.set_word.new.self c.args.column c.args.k c.word-left.result
    c.args.word _ c.word-left.ensures refl c.set_word.ensures
