use Rattle.mof_write.specs.Written.{group_data}
use Rattle.mof_write.specs.Sayable.{GroupFits}
use Rattle.mof_write.proofs.EachItem.{all_fit, fit_next, pushed_next}
use Rattle.mof_write.proofs.constraints.put_groups.Goals as goal

pub loop-group-preserved : goal.loop-group-preserved
loop-group-preserved c =
    let xs = c.args.groups.now.items in
    let left = c.loop-group.group-iterator in
    let rest = c.next.new.self in
    let x = c.in-Some.group.now in
    record {
      made = pushed_next left rest x c.in-Some.ensures.steps group_data
          c.loop-group.values.items c.push.new.self.items c.in_ok-group_constraint.field-0 _
          c.in_ok-group_constraint.ensures.value c.in_ok-push.ensures.items
          c.loop-group.invariant.made;
      fits = fit_next left rest x c.in-Some.ensures.steps GroupFits xs
          c.loop-group.invariant.fits c.in_ok-group_constraint.ensures.fits;
    }

pub returns-clause-fits : goal.returns-clause-fits
returns-clause-fits c =
    all_fit GroupFits c.args.groups.now.items c.loop-group.group-iterator c.in-None.ensures.steps.0
    c.loop-group.invariant.fits
