use Rattle.lazy_bridge.proofs.Marking.{marked_before}
use Rattle.lazy_bridge.proofs.marks.mark_once.Goals as goal

pub returns-then-is_kept-clause-marked : goal.returns-then-is_kept-clause-marked
returns-then-is_kept-clause-marked c =
    marked_before c.args.map.now.kept c.args.var c.is_kept.result c.is_kept.ensures.there
    c.if-is_kept.true
