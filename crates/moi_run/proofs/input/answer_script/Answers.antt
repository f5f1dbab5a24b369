-- The session was told the options, and then the lines were answered.
use Rattle.std.proofs.Common.{Some}
use Rattle.command_words.specs.declared.words.Invocation.TheVariants.{Run}
use Rattle.moi_run.specs.RunState.{run_state_of}
use Rattle.io_face.specs.Fault.{HasFaulted}
use Rattle.edit_engine.specs.CountLaws.{calls_stay}
use Rattle.io_face.specs.Told.{told_by}
use Rattle.moi_run.proofs.Running.{runs_script, runs_without_memory, set_up_is}
use Rattle.moi_run.proofs.input.answer_script.Goals as goal
use Rattle.std.proofs.Common.{refl}

pub returns-in-Ok-set_up-clause-runs : goal.returns-in-Ok-set_up-clause-runs
returns-in-Ok-set_up-clause-runs g c =
    let told = told_by (g.H.Shelf.files c.args.shelf.now) (g.H.Shelf.sure c.args.shelf.now) in
    runs_script c.args.setup c.answer_lines.result (g.I.Source.left c.args.input.now)
    (g.I.Source.left c.answer_lines.new.input) told (g.H.Shelf.faults c.args.shelf.now)
    (g.H.Shelf.faults c.answer_lines.new.shelf)
    (HasFaulted (g.I.Source.faults c.args.input.now) (g.I.Source.faults c.answer_lines.new.input))
    (HasFaulted (g.O.Sink.faults c.args.output.now) (g.O.Sink.faults c.answer_lines.new.output))
    (run_state_of c.args.session.now told (g.H.Shelf.asked c.args.shelf.now)) (run_state_of c.set_up.new.self told (g.H.Shelf.asked c.args.shelf.now))
    (run_state_of c.answer_lines.new.session told (g.H.Shelf.asked c.answer_lines.new.shelf)) _ _
    (set_up_is c.args.setup c.args.session.now c.set_up.new.self told
    (g.H.Shelf.asked c.args.shelf.now) c.in-Ok-set_up.ensures.ok
    c.set_up.ensures.group c.in-Ok-set_up.ensures.allowance
    (calls_stay c.args.session.now.cache.lazy c.set_up.new.self.cache.lazy
    c.in-Ok-set_up.ensures.few)) refl
    c.answer_lines.ensures.pivots c.answer_lines.ensures.outcome c.answer_lines.ensures.prefix
    c.answer_lines.ensures.cause

pub returns-clause-runs : goal.returns-clause-runs
returns-clause-runs g c =
    let told = told_by (g.H.Shelf.files c.args.shelf.now) (g.H.Shelf.sure c.args.shelf.now) in
    runs_without_memory (Some (Run c.args.setup)) (g.I.Source.left c.args.input.now)
    (g.I.Source.left c.args.input.now) told _ _
    (run_state_of c.args.session.now told (g.H.Shelf.asked c.args.shelf.now))
    (run_state_of c.set_up.new.self told (g.H.Shelf.asked c.args.shelf.now))
    (g.O.Sink.written c.args.output.now)

pub returns-in_default-clause-runs : goal.returns-in_default-clause-runs
returns-in_default-clause-runs g c =
    let told = told_by (g.H.Shelf.files c.args.shelf.now) (g.H.Shelf.sure c.args.shelf.now) in
    runs_without_memory (Some (Run c.args.setup)) (g.I.Source.left c.args.input.now)
    (g.I.Source.left c.args.input.now) told _ _
    (run_state_of c.args.session.now told (g.H.Shelf.asked c.args.shelf.now))
    (run_state_of c.args.session.now told (g.H.Shelf.asked c.args.shelf.now))
    (g.O.Sink.written c.args.output.now)
