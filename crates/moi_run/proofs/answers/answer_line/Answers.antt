-- What became of the line is what became of its answer.
use Rattle.edit_engine.specs.Held.{machine_of}
use Rattle.io_face.specs.Told.{told_by}
use Rattle.moi_run.proofs.Answering.{heard_sound, line_heard}
use Rattle.moi_run.proofs.Exits.{line_fails}
use Rattle.moi_run.proofs.Moving.{moved}
use Rattle.moi_run.proofs.answers.answer_line.Goals as goal
use Rattle.moi_run.specs.RunState.{run_state_of}

pub returns-clause-heard : goal.returns-clause-heard
returns-clause-heard g c =
    let told = told_by (g.H.Shelf.files c.args.shelf.now) (g.H.Shelf.sure c.args.shelf.now) in
    let asked = g.H.Shelf.asked c.args.shelf.now in
    let asked_now = g.H.Shelf.asked c.line-answer.new.shelf in
    line_heard c.write_answer.result (run_state_of c.args.session.now told asked)
    (run_state_of c.line-answer.new.self told asked_now) c.args.line.now c.line-answer.result _ _
    (moved c.args.session.now c.line-answer.new.self told asked asked_now c.args.line.now
    c.line-answer.result c.line-answer.ensures.step c.line-answer.ensures.few
    c.line-answer.ensures.asks)
    c.write_answer.ensures.written

pub returns-clause-read_fault : goal.returns-clause-read_fault
returns-clause-read_fault g c is =
    let told = told_by (g.H.Shelf.files c.args.shelf.now) (g.H.Shelf.sure c.args.shelf.now) in
    line_fails c.write_answer.result (machine_of c.args.session.now told)
    (machine_of c.line-answer.new.self told) c.args.line.now c.line-answer.result _ _ _ _
    c.line-answer.ensures.step c.write_answer.ensures.written c.line-answer.ensures.cause is

pub returns-clause-sound_fetches : goal.returns-clause-sound_fetches
returns-clause-sound_fetches g c =
    heard_sound c.write_answer.result c.line-answer.result _ _ _ _ c.write_answer.ensures.written
    c.line-answer.ensures.sound
