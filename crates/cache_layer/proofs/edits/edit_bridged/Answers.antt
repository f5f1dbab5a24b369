use Rattle.std.proofs.Common.{refl, subst, sym}
use Rattle.std.specs.Prelude.{Err}
use Rattle.small_number_laws.specs.SmallNumbers.{HasSmallNumbers}
use Rattle.local_laws.specs.Unlisted.{LeadBackTo}
use Rattle.cache_layer.proofs.Editing.{edit_answer, edit_bridged, never_given, step_answer}
use Rattle.cache_layer.proofs.FewSteps.{edit_few}
use Rattle.cache_layer.proofs.edits.edit_bridged.Goals as goal

pub returns-in-Ok-push-clause-answer : goal.returns-in-Ok-push-clause-answer
returns-in-Ok-push-clause-answer g c =
    edit_bridged c.args.model.now c.settle.new.self c.args.lazy.now c.push.new.lazy c.args.edit
    c.apply.new.self.model c.in-Ok-push.changed c.in-Ok.ensures.ok c.in-Ok.ensures.model
    c.settle.ensures.model c.requires.stands c.in-Ok-push.ensures.bridged

pub push-requires : goal.push-requires
push-requires g c =
    let was = c.in-Ok.ensures in (
      c.args.model.now.model,
      c.requires.stands,
      subst (λ us. LeadBackTo c.args.model.now.model us c.apply.new.self.model)
          (sym c.from_ref.ensures.value) (c.apply.new.self.model, was.undo, refl),
    )

pub take_back-requires : goal.take_back-requires
take_back-requires g c =
    let was = c.in-Ok.ensures in
    (c.args.model.now, record { edit = was.edit; lists = was.undo; back = was.before; parked = was.parked })

pub returns-in-Err-clause-answer : goal.returns-in-Err-clause-answer
returns-in-Err-clause-answer g c =
    let was = c.in-Ok.ensures in
    let back =
    c.take_back.ensures c.args.model.now
    (record { edit = was.edit; lists = was.undo; back = was.before; parked = was.parked }) in
    edit_answer c.args.model.now c.take_back.new.model c.args.lazy.now c.push.new.lazy c.args.edit
    c.apply.new.self.model c.in-Err.fault c.from.result c.from.ensures was.ok was.model back
    c.in-Err.ensures.bridged

pub returns-in-Err-clause-in_step : goal.returns-in-Err-clause-in_step
returns-in-Err-clause-in_step g c =
    let was = c.in-Ok.ensures in
    let back =
    c.take_back.ensures c.args.model.now
    (record { edit = was.edit; lists = was.undo; back = was.before; parked = was.parked }) in
    step_answer c.args.model.now c.take_back.new.model c.args.lazy.now c.push.new.lazy
    c.args.lazy.now.bridges.table c.apply.new.self.model c.in-Err.fault c.from.result c.from.ensures
    back c.in-Err.ensures.bridged c.requires.stands c.requires.settled

pub returns-in-Err-clause-small : goal.returns-in-Err-clause-small
returns-in-Err-clause-small g c = λ small.
    never_given c.in-Err.fault c.from.result (Err c.from.result) refl c.from.ensures
    (c.in-Err.ensures.small (subst HasSmallNumbers (sym c.in-Ok.ensures.model) small))

pub returns-in-Err-clause-few : goal.returns-in-Err-clause-few
returns-in-Err-clause-few g c =
    edit_few c.args.lazy.now c.push.new.lazy c.args.lazy.now.bridges.table c.apply.new.self.model
    c.in-Err.fault c.from.result c.from.ensures c.in-Err.ensures.bridged
