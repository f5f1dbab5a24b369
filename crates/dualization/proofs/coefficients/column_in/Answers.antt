use Rattle.std.proofs.Common.{◌∙◌, ap}
use Rattle.aff_core.specs.FunctionLists.{coefficients}
use Rattle.user_model.specs.declared.row.Row.{Row}
use Rattle.certificates.specs.Points.{functions_of}
use Rattle.dual_parts.specs.Parts.{on_parts}
use Rattle.dual_model.specs.DualOf.{column_in}
use Rattle.dualization.proofs.LoopLemmas.{flat_more}
use Rattle.dualization.proofs.coefficients.column_in.Goals as goal

pub loop-row-preserved : goal.loop-row-preserved
loop-row-preserved c =
    flat_more (λ (r : Row). on_parts r.set (coefficients (functions_of r.func) c.args.at.now))
    c.loop-row.column.items c.push_on_parts.new.all.items c.loop-row.row-iterator c.next.new.self
    c.in-Some.row.now (on_parts c.in-Some.row.now.set c.as_slice.result.now)
    (column_in c.args.rows.now.items c.args.at.now) c.loop-row.invariant c.in-Some.ensures.steps
    c.in_ok-push_on_parts.ensures
    (ap (on_parts c.in-Some.row.now.set) (c.as_slice.ensures.value ∙ c.in_ok-own.ensures))
