use Rattle.std.proofs.Common.{◌≡◌, ap, length, subst, sym, ◌∙◌}
use Rattle.std.specs.Prelude.{All}
use Rattle.set_map.specs.Fitting.{AppliedFits}
use Rattle.set_map.specs.Matrices.{applied}
use Rattle.set_map.proofs.Made.{made_more}
use Rattle.set_map.proofs.matrices.applied_to_each.Goals as goal

pub applied-requires : goal.applied-requires
applied-requires c =
    subst (λ row. All (λ column. length column ≡ length row) c.args.columns.now)
    (sym c.row-item.is ∙ sym c.as_slice.ensures)
    (c.requires c.loop-row.row-index c.row-item.result c.loop-row-test.true)

pub loop-row-preserved : goal.loop-row-preserved
loop-row-preserved c =
    let columns = c.args.columns.now in
    made_more (AppliedFits columns) (applied columns) c.args.rows.now
    c.loop-row.row-index c.loop-row.entries.items c.push.new.self.items c.row-item.result
    c.in_ok-applied.field-0 c.loop-row.invariant c.row-item.is c.loop-row-test.true
    (subst (AppliedFits columns) c.as_slice.ensures c.in_ok-applied.ensures.0)
    (c.in_ok-applied.ensures.1 ∙ ap (applied columns) c.as_slice.ensures)
    c.in_ok-push.ensures.items
