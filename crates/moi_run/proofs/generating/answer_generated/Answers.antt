-- The session was told the target and the allowance, and then the lines were answered.
use Rattle.std.proofs.Common.{subst}
use Rattle.edit_engine.specs.Held.{machine_of}
use Rattle.io_face.specs.Told.{told_by}
use Rattle.moi_run.specs.Commands.{generate_setup}
use Rattle.moi_run.specs.Generated.{GenerateOutcome}
use Rattle.moi_run.proofs.Running.{machine_set_up}
use Rattle.moi_run.proofs.generating.answer_generated.Goals as goal

pub returns-in-Ok-clause-outcome : goal.returns-in-Ok-clause-outcome
returns-in-Ok-clause-outcome g c =
    let told = told_by (g.H.Shelf.files c.args.shelf.now) (g.H.Shelf.sure c.args.shelf.now) in
    subst (λ m. GenerateOutcome c.sum_up_answers.result c.args.recipe m
    (machine_of c.sum_up_answers.new.session told) (g.O.Sink.written c.args.output.now)
    (g.O.Sink.written c.sum_up_answers.new.output))
    (machine_set_up generate_setup c.args.session.now c.set_up.new.self told c.in-Ok.ensures.ok
    c.set_up.ensures.group c.in-Ok.ensures.allowance) c.sum_up_answers.ensures.outcome
