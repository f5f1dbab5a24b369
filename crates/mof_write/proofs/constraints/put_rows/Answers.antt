use Rattle.std.specs.Prelude.{All}
use Rattle.std.proofs.Common.{◌++◌, ◌∙◌, ap, map, subst}
use Rattle.serde_json.specs.View.{view}
use Rattle.mof_write.specs.Written.{naming, row_data}
use Rattle.mof_write.specs.Sayable.{IsSayableRow}
use Rattle.mof_write.proofs.EachItem.{all_fit, fit_next, pushed_next}
use Rattle.mof_write.proofs.constraints.put_rows.Goals as goal

pub loop-row-init : goal.loop-row-init
loop-row-init c =
    let source = c.into_iter-row-iterator.ensures.into_iter_gives
    ∙ c.iter-row-items.ensures.items in
    record {
      made = ap (λ rows. map view c.args.values.now.items
          ++ map (row_data (naming c.args.model.now.model)) rows) source;
      fits = subst (All IsSayableRow) source;
    }

pub loop-row-preserved : goal.loop-row-preserved
loop-row-preserved c =
    let xs = c.args.rows.now.items in
    let left = c.loop-row.row-iterator in
    let rest = c.next.new.self in
    let x = c.in-Some.row.now in
    record {
      made = pushed_next left rest x c.in-Some.ensures.steps
          (row_data (naming c.args.model.now.model))
          c.loop-row.values.items c.push.new.self.items c.in_ok-row_constraint.field-0 _
          c.in_ok-row_constraint.ensures.value c.in_ok-push.ensures.items
          c.loop-row.invariant.made;
      fits = fit_next left rest x c.in-Some.ensures.steps IsSayableRow xs
          c.loop-row.invariant.fits c.in_ok-row_constraint.ensures.fits;
    }

pub returns-clause-fits : goal.returns-clause-fits
returns-clause-fits c =
    all_fit IsSayableRow c.args.rows.now.items c.loop-row.row-iterator c.in-None.ensures.steps.0
    c.loop-row.invariant.fits
