use Rattle.std.proofs.Common.{ap, Err}
use Rattle.std.specs.Prelude as prelude
use Rattle.file_command.specs.LoadingLaws.{answered_with, answered_without}
use Rattle.file_command.specs.RunLaws.{no_failure}
use Rattle.io_face.specs.Told.{told_by}
use Rattle.model_command.specs.Alone.{standard_by}
use Rattle.relax_command.proofs.answering.answer.Goals as goal
use Rattle.relax_command.specs.Says.{SaysOfRelaxation}
use Rattle.relax_command.specs.SaysLaws.{says_plain}

pub answer_on-requires-clause-settled : goal.answer_on-requires-clause-settled
answer_on-requires-clause-settled g c = c.in-Ok.ensures.loads.settled

pub returns-in-Ok-clause-answers : goal.returns-in-Ok-clause-answers
returns-in-Ok-clause-answers g c = λ not.
    let setting = standard_by (prelude.map g.B.Bridge.state c.args.bridges.items) in
    let told = told_by (g.H.Shelf.files c.args.shelf.now) (g.H.Shelf.sure c.args.shelf.now) in
    answered_with (SaysOfRelaxation setting) told c.args.name.now c.in-Ok.model c.answer_on.result
    c.in-Ok.ensures.loads (c.answer_on.ensures not)

pub returns-in-Ok-clause-cause : goal.returns-in-Ok-clause-cause
returns-in-Ok-clause-cause g c = λ e.
    let setting = standard_by (prelude.map g.B.Bridge.state c.args.bridges.items) in
    absurd (no_failure (SaysOfRelaxation setting) (says_plain setting) c.in-Ok.model.model c.answer_on.result
    c.answer_on.ensures e)

pub returns-in-Err-clause-answers : goal.returns-in-Err-clause-answers
returns-in-Err-clause-answers g c = λ not.
    let setting = standard_by (prelude.map g.B.Bridge.state c.args.bridges.items) in
    let told = told_by (g.H.Shelf.files c.args.shelf.now) (g.H.Shelf.sure c.args.shelf.now) in
    answered_without (SaysOfRelaxation setting) told c.args.name.now c.in-Err.answer
    c.in-Err.ensures.loads not

pub returns-in-Err-clause-cause : goal.returns-in-Err-clause-cause
returns-in-Err-clause-cause g c = λ e. c.in-Err.ensures.cause (ap Err e)
