use Rattle.std.proofs.Common.{◌∙◌, ap}
use Rattle.aff_core.specs.Points.{spread}
use Rattle.adjoint_core.proofs.Moved.{objective_read}
use Rattle.adjoint_core.proofs.carrying.value_at.Goals as goal

pub returns-in-Ok : goal.returns-in-Ok
returns-in-Ok c =
    objective_read c.args.model.now.model c.args.x.now c.in-Ok.value _ _
    (c.new.ensures ∙ ap (λ us. spread us c.args.x.now) c.requires) c.objective.ensures.value
    c.in-Ok.ensures
