use Rattle.std.proofs.Common.{refl}
use Rattle.std.specs.Prelude.{Err}
use Rattle.cache_layer.proofs.Editing.{bridged, never_given, step_answer, table_answer}
use Rattle.cache_layer.proofs.FewSteps.{edit_few}
use Rattle.cache_layer.proofs.edits.table_bridged.Goals as goal

pub returns-in-Ok-clause-answer : goal.returns-in-Ok-clause-answer
returns-in-Ok-clause-answer g c =
    bridged c.args.model.now c.args.model.now c.args.lazy.now c.set_table.new.lazy c.args.table
    c.args.model.now.model c.in-Ok.changed refl c.requires.stands c.in-Ok.ensures.bridged

pub returns-in-Err-clause-answer : goal.returns-in-Err-clause-answer
returns-in-Err-clause-answer g c =
    table_answer c.args.model.now c.args.model.now c.args.lazy.now c.set_table.new.lazy
    c.args.table c.args.model.now.model c.in-Err.fault c.from.result c.from.ensures refl
    c.in-Err.ensures.bridged

pub returns-in-Err-clause-in_step : goal.returns-in-Err-clause-in_step
returns-in-Err-clause-in_step g c =
    step_answer c.args.model.now c.args.model.now c.args.lazy.now c.set_table.new.lazy
    c.args.table c.args.model.now.model c.in-Err.fault c.from.result c.from.ensures refl
    c.in-Err.ensures.bridged c.requires.stands c.requires.settled

pub returns-in-Err-clause-small : goal.returns-in-Err-clause-small
returns-in-Err-clause-small g c = λ small.
    never_given c.in-Err.fault c.from.result (Err c.from.result) refl c.from.ensures
    (c.in-Err.ensures.small small)

pub returns-in-Err-clause-few : goal.returns-in-Err-clause-few
returns-in-Err-clause-few g c =
    edit_few c.args.lazy.now c.set_table.new.lazy c.args.table c.args.model.now.model
    c.in-Err.fault c.from.result c.from.ensures c.in-Err.ensures.bridged
