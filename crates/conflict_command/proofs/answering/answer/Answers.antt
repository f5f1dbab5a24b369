use Rattle.std.proofs.Common.{ap, Err}
use Rattle.std.specs.Prelude as prelude
use Rattle.conflict_command.proofs.Told.{has_room}
use Rattle.conflict_command.proofs.answering.answer.Goals as goal
use Rattle.conflict_command.specs.Says.{SaysOfConflict}
use Rattle.conflict_command.specs.SaysLaws.{says_plain}
use Rattle.file_command.specs.LoadingLaws.{answered_with, answered_without}
use Rattle.file_command.specs.RunLaws.{no_failure}
use Rattle.io_face.specs.Told.{told_by}
use Rattle.model_command.specs.Alone.{standard_by}

pub answer_on-requires : goal.answer_on-requires
answer_on-requires g c =
    let told = told_by (g.H.Shelf.files c.args.shelf.now) (g.H.Shelf.sure c.args.shelf.now) in
    record {
      settled = c.in-Ok.ensures.loads.settled;
      room = has_room told c.args.name.now c.in-Ok.model c.in-Ok.ensures.loads
          c.rows-valid.ensures.valid;
      once = c.requires.once;
      kept = c.requires.kept;
    }

pub returns-in-Ok-clause-answers : goal.returns-in-Ok-clause-answers
returns-in-Ok-clause-answers g c = λ not.
    let setting = standard_by (prelude.map g.B.Bridge.state c.args.bridges.items) in
    let told = told_by (g.H.Shelf.files c.args.shelf.now) (g.H.Shelf.sure c.args.shelf.now) in
    answered_with (SaysOfConflict setting) told c.args.name.now c.in-Ok.model c.answer_on.result
    c.in-Ok.ensures.loads (c.answer_on.ensures not)

pub returns-in-Ok-clause-cause : goal.returns-in-Ok-clause-cause
returns-in-Ok-clause-cause g c = λ e.
    let setting = standard_by (prelude.map g.B.Bridge.state c.args.bridges.items) in
    absurd (no_failure (SaysOfConflict setting) (says_plain setting) c.in-Ok.model.model c.answer_on.result
    c.answer_on.ensures e)

pub returns-in-Err-clause-answers : goal.returns-in-Err-clause-answers
returns-in-Err-clause-answers g c = λ not.
    let setting = standard_by (prelude.map g.B.Bridge.state c.args.bridges.items) in
    let told = told_by (g.H.Shelf.files c.args.shelf.now) (g.H.Shelf.sure c.args.shelf.now) in
    answered_without (SaysOfConflict setting) told c.args.name.now c.in-Err.answer c.in-Err.ensures.loads not

pub returns-in-Err-clause-cause : goal.returns-in-Err-clause-cause
returns-in-Err-clause-cause g c = λ e. c.in-Err.ensures.cause (ap Err e)
