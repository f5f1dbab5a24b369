-- The session was told the options, and then the lines were answered.
use Rattle.moi_run.specs.RunState.{run_state_of}
use Rattle.edit_engine.specs.CountLaws.{calls_stay}
use Rattle.io_face.specs.Told.{told_by}
use Rattle.moi_run.proofs.Running.{each_without_memory, runs_each, set_up_is}
use Rattle.moi_run.proofs.answers.answer_with.Goals as goal

pub returns-in-Ok-clause-runs : goal.returns-in-Ok-clause-runs
returns-in-Ok-clause-runs g c =
    let told = told_by (g.H.Shelf.files c.args.shelf.now) (g.H.Shelf.sure c.args.shelf.now) in
    runs_each _ c.args.setup c.answer_each.result (run_state_of c.args.session.now told (g.H.Shelf.asked c.args.shelf.now))
    (run_state_of c.set_up.new.self told (g.H.Shelf.asked c.args.shelf.now)) (run_state_of c.answer_each.new.session told (g.H.Shelf.asked c.answer_each.new.shelf)) _ _
    (set_up_is c.args.setup c.args.session.now c.set_up.new.self told
    (g.H.Shelf.asked c.args.shelf.now) c.in-Ok.ensures.ok
    c.set_up.ensures.group c.in-Ok.ensures.allowance
    (calls_stay c.args.session.now.cache.lazy c.set_up.new.self.cache.lazy c.in-Ok.ensures.few))
    c.answer_each.ensures.pivots c.answer_each.ensures.outcome c.answer_each.ensures.prefix

pub returns-in-Err-clause-runs : goal.returns-in-Err-clause-runs
returns-in-Err-clause-runs g c =
    let told = told_by (g.H.Shelf.files c.args.shelf.now) (g.H.Shelf.sure c.args.shelf.now) in
    each_without_memory _ c.args.setup
    (run_state_of c.args.session.now told (g.H.Shelf.asked c.args.shelf.now))
    (run_state_of c.set_up.new.self told (g.H.Shelf.asked c.args.shelf.now))
    (g.O.Sink.written c.args.output.now)
