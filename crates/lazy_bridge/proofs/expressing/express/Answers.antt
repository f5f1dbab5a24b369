use Rattle.std.proofs.Common.{◌∙◌}
use Rattle.lazy_bridge.proofs.Noting.{noted_if}
use Rattle.lazy_bridge.proofs.Variables.{expressed, if_kept}
use Rattle.fresh_bridging.specs.Entries.{expression_in, function_in}
use Rattle.lazy_bridge.proofs.expressing.express.Goals as goal

pub returns-clause-exprs : goal.returns-clause-exprs
returns-clause-exprs c =
    noted_if c.set_kept.result
    (λ h. expressed c.args.map.now.exprs c.set_kept.new.map.exprs c.args.var
    (function_in c.args.standing.now) c.in_ok-function.field-0
    (c.set_kept.ensures.exprs ∙ c.in_ok-put_expr.ensures.ok) c.in_ok-function.ensures)
    c.set_kept.ensures.marked

pub returns-clause-marks : goal.returns-clause-marks
returns-clause-marks c =
    noted_if c.set_kept.result
    (if_kept c.args.map.now.kept c.put_expr.new.self.kept c.set_kept.new.map.kept c.args.var
    (expression_in c.args.standing.now) c.kept.result c.is_some.result
    c.in_ok-put_expr.ensures.kept c.kept.ensures c.is_some.ensures)
    c.set_kept.ensures.marked
