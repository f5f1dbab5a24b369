use Rattle.std.proofs.Common.{Err, ap, ap₂, subst, ◌∙◌}
use Rattle.std.specs.Prelude as prelude
use Rattle.file_command.specs.LoadingLaws.{answered_with, answered_without}
use Rattle.io_face.specs.Fault.{HasFaulted}
use Rattle.io_face.specs.Told.{told_by}
use Rattle.model_command.specs.Alone.{standard_by}
use Rattle.setmap_command.proofs.Fetched.{asks_both, asks_one}
use Rattle.setmap_command.proofs.answering.answer.Goals as goal
use Rattle.setmap_command.specs.Files.{SaysOfMaps}

pub returns-in-Ok-clause-answers : goal.returns-in-Ok-clause-answers
returns-in-Ok-clause-answers g c = λ not.
    let setting = standard_by (prelude.map g.B.Bridge.state c.args.bridges.items) in
    let told = told_by (g.H.Shelf.files c.args.shelf.now) (g.H.Shelf.sure c.args.shelf.now) in
    let maps = c.args.command.now.maps in
    answered_with (SaysOfMaps setting told maps) told c.args.command.now.model c.in-Ok.model
    c.answer_on.result c.in-Ok.ensures.loads
    (subst (λ t. SaysOfMaps setting t maps c.in-Ok.model.model c.answer_on.result)
    (ap₂ told_by c.in-Ok.ensures.files c.in-Ok.ensures.sure) (c.answer_on.ensures.says not))

pub returns-in-Ok-clause-cause : goal.returns-in-Ok-clause-cause
returns-in-Ok-clause-cause g c = λ e.
    subst (λ n. HasFaulted n (g.H.Shelf.faults c.answer_on.new.shelf))
    (c.model_of.ensures.sound (λ f. cc (c.in-Ok.is, f))) (c.answer_on.ensures.cause e)

pub returns-in-Ok-clause-sound : goal.returns-in-Ok-clause-sound
returns-in-Ok-clause-sound g c = λ not.
    c.answer_on.ensures.sound not ∙ c.model_of.ensures.sound (λ f. cc (c.in-Ok.is, f))

pub returns-in-Ok-clause-asks : goal.returns-in-Ok-clause-asks
returns-in-Ok-clause-asks g c = λ not.
    asks_both (told_by (g.H.Shelf.files c.args.shelf.now) (g.H.Shelf.sure c.args.shelf.now))
    c.args.command.now.model c.args.command.now.maps (g.H.Shelf.asked c.args.shelf.now)
    (g.H.Shelf.asked c.model_of.new.shelf) (g.H.Shelf.asked c.answer_on.new.shelf) c.in-Ok.model
    c.in-Ok.ensures.loads (c.model_of.ensures.asks (λ f. cc (c.in-Ok.is, f)))
    (c.answer_on.ensures.asks not)

pub returns-in-Err-clause-answers : goal.returns-in-Err-clause-answers
returns-in-Err-clause-answers g c = λ not.
    let setting = standard_by (prelude.map g.B.Bridge.state c.args.bridges.items) in
    let told = told_by (g.H.Shelf.files c.args.shelf.now) (g.H.Shelf.sure c.args.shelf.now) in
    answered_without (SaysOfMaps setting told c.args.command.now.maps) told c.args.command.now.model
    c.in-Err.answer c.in-Err.ensures.loads not

pub returns-in-Err-clause-cause : goal.returns-in-Err-clause-cause
returns-in-Err-clause-cause g c = λ e. c.in-Err.ensures.cause (ap Err e)

pub returns-in-Err-clause-asks : goal.returns-in-Err-clause-asks
returns-in-Err-clause-asks g c = λ not.
    asks_one (told_by (g.H.Shelf.files c.args.shelf.now) (g.H.Shelf.sure c.args.shelf.now))
    c.args.command.now.model c.args.command.now.maps (g.H.Shelf.asked c.args.shelf.now)
    (g.H.Shelf.asked c.model_of.new.shelf) c.in-Err.answer c.in-Err.ensures.loads
    (c.model_of.ensures.asks (λ f. not (cc (c.in-Err.is, f)))) not
