use Rattle.std.proofs.Common.{ap, ◌∙◌}
use Rattle.address_map.specs.Noted.{without_item}
use Rattle.lazy_bridge.proofs.Variables.{forgotten, unmarked}
use Rattle.lazy_bridge.proofs.expressing.forget.Goals as goal

pub returns-clause-exprs : goal.returns-clause-exprs
returns-clause-exprs c =
    forgotten c.args.map.now.exprs c.unmark_kept-marked.new.self.exprs c.args.var.now
    (c.unmark_kept-marked.ensures.exprs ∙ c.drop_expr.ensures.removed)

pub returns-clause-marks : goal.returns-clause-marks
returns-clause-marks c =
    unmarked c.args.map.now.kept c.unmark_kept-marked.new.self.kept c.args.var.now
    (c.unmark_kept-marked.ensures.removed
    ∙ ap (λ s. without_item s c.args.var.now) c.drop_expr.ensures.kept)
