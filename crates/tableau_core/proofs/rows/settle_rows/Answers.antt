use Rattle.std.proofs.Common.{◌+◌, arith, subst, sym}
use Rattle.tableau_core.proofs.RowsSteps.{AreSettledTo, settled-more, settled-pivot}
use Rattle.tableau_core.proofs.rows.settle_rows.Goals as goal
use Rattle.tableau_core.proofs.rows.settle_rows.Goals.{then-i-r, else-i-r}

pub loop-i-preserved : goal.loop-i-preserved
loop-i-preserved c =
    elim c.if-i-r.branch [
      | then-i-r w ↦
          subst (λ rows. AreSettledTo c.args.r c.args.q c.args.places.now c.args.rows.now rows
          (c.loop-i.i + 1)) (sym w.rows-is)
          (settled-more c.args.r c.args.q c.args.places.now c.args.rows.now c.loop-i.rows c.loop-i.i
          w.index-rows-i.result w.settle.new.self c.loop-i.invariant c.loop-i-test.true
          w.if-i-r.true w.settle.ensures.lowered)
      | else-i-r w ↦
          subst (λ rows. AreSettledTo c.args.r c.args.q c.args.places.now c.args.rows.now rows
          (c.loop-i.i + 1)) (sym w.rows-is)
          (settled-pivot c.args.r c.args.q c.args.places.now c.args.rows.now c.loop-i.rows
          c.loop-i.i c.loop-i.invariant c.loop-i-test.true w.if-i-r.false)
    ]

pub returns-clause-lowered : goal.returns-clause-lowered
returns-clause-lowered c =
    λ step wide covers p i b n. c.loop-i.invariant.lowered step wide covers p i
    (omega (arith, b, c.loop-i-test.false)) n
