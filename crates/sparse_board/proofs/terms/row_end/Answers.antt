use Rattle.sparse_board.proofs.PlaceSteps.{passed_more, passed_none, split_at, split_end}
use Rattle.sparse_board.proofs.terms.row_end.Goals as goal

pub loop-k-init : goal.loop-k-init
loop-k-init c = passed_none c.args.to c.args.from c.args.terms.now

pub loop-k-preserved : goal.loop-k-preserved
loop-k-preserved c =
    passed_more c.args.to c.args.from c.loop-k.k c.args.terms.now c.index-terms-k.result
    c.loop-k.invariant c.loop-k-test.true c.if-terms-k.false

pub returns-then-terms-k-clause-split : goal.returns-then-terms-k-clause-split
returns-then-terms-k-clause-split c n low h wide split =
    split_at n low c.args.to c.args.from c.args.terms.now h wide split c.loop-k.k
    c.index-terms-k.result c.loop-k.invariant c.loop-k-test.true c.if-terms-k.true

pub returns-clause-split : goal.returns-clause-split
returns-clause-split c n low h wide split =
    split_end n low c.args.to c.args.from c.args.terms.now h wide split c.loop-k.k
    c.loop-k.invariant c.loop-k-test.false
