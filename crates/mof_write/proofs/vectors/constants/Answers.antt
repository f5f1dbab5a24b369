use Rattle.std.proofs.Common.{◌∙◌, ap, subst}
use Rattle.ratio_core.specs.Rational.{Fits}
use Rattle.mof_write.specs.Values.{number_data}
use Rattle.mof_write.specs.Sayable.{ConstantFits}
use Rattle.mof_write.proofs.EachItem.{all_of, one_more, pushed_more}
use Rattle.mof_write.proofs.vectors.constants.Goals as goal

pub loop-func-preserved : goal.loop-func-preserved
loop-func-preserved c =
    let xs = c.args.funcs.now in
    let i = c.loop-func.func-index in
    let x = c.func-item.result in
    record {
      made = pushed_more xs i x c.func-item.is c.loop-func-test.true (λ f. number_data f.constant)
          c.loop-func.values.items c.push.new.self.items c.in_ok-number.field-0 _
          (c.in_ok-number.ensures.value ∙ ap number_data c.constant.ensures)
          c.in_ok-push.ensures.items
          c.loop-func.invariant.made;
      fits = one_more xs i x c.func-item.is c.loop-func-test.true ConstantFits
          c.loop-func.invariant.fits (subst Fits c.constant.ensures c.in_ok-number.ensures.fits);
    }

pub returns-clause-fits : goal.returns-clause-fits
returns-clause-fits c =
    all_of ConstantFits c.args.funcs.now c.loop-func.func-index c.loop-func-test.false
    c.loop-func.invariant.fits
