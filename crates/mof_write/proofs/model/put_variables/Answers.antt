use Rattle.std.proofs.Common.{◌∙◌, ◌∷◌, [], ap}
use Rattle.mof_write.specs.Values.{object_of}
use Rattle.mof_write.specs.Written.{variable_entry}
use Rattle.mof_write.specs.Sayable.{HasName}
use Rattle.mof_write.proofs.EachItem.{all_of, one_more, pushed_more}
use Rattle.mof_write.proofs.model.put_variables.Goals as goal

pub loop-var-preserved : goal.loop-var-preserved
loop-var-preserved c =
    let xs = c.args.vars.now in
    let i = c.loop-var.var-index in
    let x = c.var-item.result in
    record {
      made = pushed_more xs i x c.var-item.is c.loop-var-test.true variable_entry
          c.loop-var.values.items c.push.new.self.items c.in_ok-variable_value.field-0 _
          (c.in_ok-variable_value.ensures
          ∙ ap (λ d. object_of (("name", d) ∷ [])) c.in_ok-name.ensures.value)
          c.in_ok-push.ensures.items
          c.loop-var.invariant.made;
      fits = one_more xs i x c.var-item.is c.loop-var-test.true HasName
          c.loop-var.invariant.fits c.in_ok-name.ensures.is_name;
    }

pub returns-clause-names : goal.returns-clause-names
returns-clause-names c =
    all_of HasName c.args.vars.now c.loop-var.var-index c.loop-var-test.false
    c.loop-var.invariant.fits
