use Rattle.std.proofs.Common.{ap, Err}
use Rattle.std.specs.Prelude as prelude
use Rattle.dual_command.proofs.answering.answer.Goals as goal
use Rattle.dual_command.specs.Says.{SaysOfDual}
use Rattle.dual_command.specs.SaysLaws.{says_plain}
use Rattle.file_command.specs.LoadingLaws.{answered_with, answered_without}
use Rattle.file_command.specs.RunLaws.{no_failure}
use Rattle.io_face.specs.Told.{told_by}
use Rattle.model_command.specs.Alone.{standard_by}

pub returns-in-Ok-clause-answers : goal.returns-in-Ok-clause-answers
returns-in-Ok-clause-answers g c = λ not.
    let setting = standard_by (prelude.map g.B.Bridge.state c.args.bridges.items) in
    let told = told_by (g.H.Shelf.files c.args.shelf.now) (g.H.Shelf.sure c.args.shelf.now) in
    answered_with (SaysOfDual setting c.args.command.now.task) told c.args.command.now.file c.in-Ok.model
    c.answer_on-answer.result c.in-Ok.ensures.loads (c.answer_on-answer.ensures not)

pub returns-in-Ok-clause-cause : goal.returns-in-Ok-clause-cause
returns-in-Ok-clause-cause g c = λ e.
    let setting = standard_by (prelude.map g.B.Bridge.state c.args.bridges.items) in
    absurd (no_failure (SaysOfDual setting c.args.command.now.task)
    (says_plain setting c.args.command.now.task) c.in-Ok.model.model c.answer_on-answer.result
    c.answer_on-answer.ensures e)

pub returns-in-Err-clause-answers : goal.returns-in-Err-clause-answers
returns-in-Err-clause-answers g c = λ not.
    let setting = standard_by (prelude.map g.B.Bridge.state c.args.bridges.items) in
    let told = told_by (g.H.Shelf.files c.args.shelf.now) (g.H.Shelf.sure c.args.shelf.now) in
    answered_without (SaysOfDual setting c.args.command.now.task) told c.args.command.now.file
    c.in-Err.answer c.in-Err.ensures.loads not

pub returns-in-Err-clause-cause : goal.returns-in-Err-clause-cause
returns-in-Err-clause-cause g c = λ e. c.in-Err.ensures.cause (ap Err e)
