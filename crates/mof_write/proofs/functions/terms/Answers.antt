use Rattle.mof_write.specs.Written.{naming, term_data}
use Rattle.mof_write.specs.Sayable.{TermFits}
use Rattle.mof_write.proofs.EachItem.{all_of, one_more, pushed_more}
use Rattle.mof_write.proofs.functions.terms.Goals as goal

pub loop-var-preserved : goal.loop-var-preserved
loop-var-preserved c =
    let xs = c.args.terms.now in
    let i = c.loop-var.var-index in
    let x = c.loop-var-item.result in
    record {
      made = pushed_more xs i x c.loop-var-item.is c.loop-var-test.true
          (term_data (naming c.args.model.now.model))
          c.loop-var.values.items c.push.new.self.items c.in_ok-term.field-0 _
          c.in_ok-term.ensures.value c.in_ok-push.ensures.items
          c.loop-var.invariant.made;
      fits = one_more xs i x c.loop-var-item.is c.loop-var-test.true TermFits
          c.loop-var.invariant.fits c.in_ok-term.ensures.fits;
    }

pub returns-clause-fits : goal.returns-clause-fits
returns-clause-fits c =
    all_of TermFits c.args.terms.now c.loop-var.var-index c.loop-var-test.false
    c.loop-var.invariant.fits
