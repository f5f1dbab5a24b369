-- The first line loads the file of the name.
use Rattle.std.proofs.Common.{[], ◌∷◌, ◌∙◌, subst}
use Rattle.std.specs.Prelude.{codes}
use Rattle.moi_run.specs.RunState.{run_state_of}
use Rattle.io_face.specs.Sink.{Adds, AddsPrefix}
use Rattle.io_face.specs.Told.{told_by}
use Rattle.moi_run.specs.Run.{RunsEach}
use Rattle.moi_run.proofs.Running.{each_without_memory}
use Rattle.moi_run.proofs.solve.answer_solve.Goals as goal

pub returns-in-Ok-clause-runs : goal.returns-in-Ok-clause-runs
returns-in-Ok-clause-runs g c =
    let told = told_by (g.H.Shelf.files c.args.shelf.now) (g.H.Shelf.sure c.args.shelf.now) in
    subst (λ line. RunsEach (line ∷ codes "attach" ∷ codes "optimize" ∷ []) c.args.setup
    c.answer_with.result (run_state_of c.args.session.now told (g.H.Shelf.asked c.args.shelf.now))
    (run_state_of c.answer_with.new.session told (g.H.Shelf.asked c.answer_with.new.shelf))
    (Adds (g.O.Sink.written c.args.output.now) (g.O.Sink.written c.answer_with.new.output))
    (AddsPrefix (g.O.Sink.written c.args.output.now)
    (g.O.Sink.written c.answer_with.new.output)))
    (c.deref.ensures.value ∙ c.in-Ok.ensures) c.answer_with.ensures.runs

pub returns-in-Err-clause-runs : goal.returns-in-Err-clause-runs
returns-in-Err-clause-runs g c =
    let told = told_by (g.H.Shelf.files c.args.shelf.now) (g.H.Shelf.sure c.args.shelf.now) in
    each_without_memory _ c.args.setup
    (run_state_of c.args.session.now told (g.H.Shelf.asked c.args.shelf.now))
    (run_state_of c.args.session.now told (g.H.Shelf.asked c.args.shelf.now))
    (g.O.Sink.written c.args.output.now)
