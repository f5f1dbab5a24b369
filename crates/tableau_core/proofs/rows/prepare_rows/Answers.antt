use Rattle.std.proofs.Common.{◌+◌, subst, sym, ◌∙◌}
use Rattle.tableau_core.specs.LoweringLaws.{is_ok-err}
use Rattle.tableau_core.proofs.RowsSteps.{ArePreparedTo, prepared-more, prepared-pivot, rows-refused}
use Rattle.tableau_core.proofs.rows.prepare_rows.Goals as goal
use Rattle.tableau_core.proofs.rows.prepare_rows.Goals.{then-i-r+in_ok-prepare, else-i-r}

pub returns-in_err-prepare-clause-fits : goal.returns-in_err-prepare-clause-fits
returns-in_err-prepare-clause-fits c =
    is_ok-err c.from_residual.result c.from_residual.ensures.0
    ∙ sym (rows-refused c.args.r c.args.q c.args.step.now c.args.rows.now c.loop-i.rows c.loop-i.i
    c.index-rows-i.result c.loop-i.invariant c.loop-i-test.true c.if-i-r.true
    c.in_err-prepare.ensures.fits)

pub loop-i-preserved : goal.loop-i-preserved
loop-i-preserved c =
    elim c.if-i-r.branch [
      | then-i-r+in_ok-prepare w ↦
          subst (λ rows. ArePreparedTo c.args.r c.args.q c.args.step.now c.args.rows.now rows
          (c.loop-i.i + 1)) (sym w.rows-is)
          (prepared-more c.args.r c.args.q c.args.step.now c.args.rows.now c.loop-i.rows c.loop-i.i
          w.index-rows-i.result w.prepare.new.self c.loop-i.invariant c.loop-i-test.true
          w.in_ok-prepare.ensures.stays w.in_ok-prepare.ensures.fits w.in_ok-prepare.ensures.ok)
      | else-i-r w ↦
          subst (λ rows. ArePreparedTo c.args.r c.args.q c.args.step.now c.args.rows.now rows
          (c.loop-i.i + 1)) (sym w.rows-is)
          (prepared-pivot c.args.r c.args.q c.args.step.now c.args.rows.now c.loop-i.rows c.loop-i.i
          c.loop-i.invariant c.loop-i-test.true w.if-i-r.false)
    ]
