use Rattle.std.proofs.Common.{ap, ◌∙◌}
use Rattle.std.specs.FinMap as finite
use Rattle.found_plan.proofs.MarkSteps.{marks_one}
use Rattle.found_plan.proofs.kinds.tell_variable.Goals as goal

pub returns-in-Ok : goal.returns-in-Ok
returns-in-Ok c =
    marks_one c.args.map.now c.args.var.now c.args.kept.now c.put.new.self
    (c.in-Ok.ensures.ok ∙ ap (finite.insert c.args.kept.now c.args.var.now) c.is_kept.ensures.there)
