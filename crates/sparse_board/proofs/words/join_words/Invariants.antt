use Rattle.sparse_board.specs.Words.{AreJoined}
use Rattle.sparse_board.proofs.words.join_words.Given as goal

abbrev pub invariant-loop-k : goal.invariant-loop-k
invariant-loop-k l = AreJoined l.from l.to l.k l.fn.words l.words
