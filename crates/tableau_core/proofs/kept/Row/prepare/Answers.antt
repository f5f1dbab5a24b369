use Rattle.std.proofs.Common.{sym}
use Rattle.tableau_core.specs.Row.{cell}
use Rattle.tableau_core.proofs.RowSteps.{differences_fit-zero, entry-zero}
use Rattle.tableau_core.proofs.kept.Row.prepare.Goals as goal

pub returns-then-is_zero-clause-fits : goal.returns-then-is_zero-clause-fits
returns-then-is_zero-clause-fits c =
    sym (differences_fit-zero (cell c.args.self.now.now.items c.args.q) c.args.step.now
    c.args.self.now.now.items
    (entry-zero c.args.self.now.now.items c.args.q c.index.result.now c.requires.within
    c.index.ensures (c.is_zero.ensures.0 c.if-is_zero.true))
    c.args.self.now.now_fit)
