use Rattle.std.proofs.Common.{arith, refl}
use Rattle.sparse_board.proofs.WordSteps.{words_more, words_none}
use Rattle.sparse_board.proofs.words.join_words.Goals as goal

pub loop-k-init : goal.loop-k-init
loop-k-init c = words_none c.args.from c.args.to c.args.words.now

pub loop-k-preserved : goal.loop-k-preserved
loop-k-preserved c =
    words_more c.args.from c.args.to c.args.count c.loop-k.k c.args.words.now c.loop-k.words _
    c.loop-k.invariant c.loop-k-test.true c.requires.apart
    (omega (arith, c.requires.to, c.loop-k-test.true, c.loop-k.auto.words)) refl
