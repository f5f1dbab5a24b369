use Rattle.lazy_bridge.proofs.Noting.{noted_if}
use Rattle.lazy_bridge.proofs.Variables.{kept_as, marked, unmarked}
use Rattle.lazy_bridge.proofs.marks.set_kept.Goals as goal

pub returns-then-kept-clause-marked : goal.returns-then-kept-clause-marked
returns-then-kept-clause-marked c =
    noted_if c.mark_once.result
    (λ h. kept_as c.args.kept _ c.if-kept.true _ _ _
    (marked c.args.map.now.kept c.mark_once.new.map.kept c.args.var h))
    c.mark_once.ensures.marked

pub returns-clause-marked : goal.returns-clause-marked
returns-clause-marked c =
    kept_as c.args.kept _ c.if-kept.false _ _ _
    (unmarked c.args.map.now.kept c.unmark_kept-marked.new.self.kept c.args.var
    c.unmark_kept-marked.ensures.removed)
