use Rattle.std.proofs.Common.{refl, subst, sym}
use Rattle.std.specs.Prelude.{Err}
use Rattle.local_laws.specs.Unlisted.{LeadBackTo}
use Rattle.cache_layer.proofs.Grouping.{group_answer, group_few, group_step, group_untouched, grouped, grouped_in_step, made_small, never_grouped}
use Rattle.cache_layer.proofs.Leading.{lead_to}
use Rattle.model_load.specs.LoadsLaws.{made_waits}
use Rattle.cache_layer.proofs.groups.group_bridged.Goals as goal

pub push-requires : goal.push-requires
push-requires g c =
    let start = c.args.model.now in
    let mid = c.make_copies.new.model in (
      start.model,
      c.requires.stands,
      subst (λ us. LeadBackTo start.model us mid.model) (sym c.deref.ensures.value)
          (lead_to start mid c.in-Ok.undos.items c.in-Ok.ensures.made.back),
    )

pub settle_all-requires : goal.settle_all-requires
settle_all-requires g c = (
  c.args.model.now.parked,
  made_waits c.args.model.now c.make_copies.new.model c.args.edits.now c.in-Ok.undos.items
      c.in-Ok.ensures.made,
)

pub returns-in-Ok-push-clause-answer : goal.returns-in-Ok-push-clause-answer
returns-in-Ok-push-clause-answer g c =
    grouped c.args.model.now c.make_copies.new.model c.settle_all.new.model c.args.lazy.now
    c.push.new.lazy c.args.edits.now c.in-Ok.undos.items c.in-Ok-push.changed c.in-Ok.ensures.made
    c.settle_all.ensures.model c.requires.stands c.in-Ok-push.ensures.bridged

pub returns-in-Ok-push-clause-in_step : goal.returns-in-Ok-push-clause-in_step
returns-in-Ok-push-clause-in_step g c =
    grouped_in_step c.args.model.now c.make_copies.new.model c.settle_all.new.model
    c.args.lazy.now c.push.new.lazy c.in-Ok-push.changed c.settle_all.ensures.model
    (c.settle_all.ensures.parked c.args.model.now.parked
    (made_waits c.args.model.now c.make_copies.new.model c.args.edits.now c.in-Ok.undos.items
    c.in-Ok.ensures.made))
    c.requires.settled c.in-Ok-push.ensures.bridged

pub take_back_all-requires : goal.take_back_all-requires
take_back_all-requires g c = (c.args.model.now, c.in-Ok.ensures.made.back)

pub returns-in-Err-clause-answer : goal.returns-in-Err-clause-answer
returns-in-Err-clause-answer g c =
    group_answer c.args.model.now c.make_copies.new.model c.take_back_all.new.model
    c.args.lazy.now c.push.new.lazy c.args.edits.now c.in-Ok.undos.items c.in-Err.fault
    c.from.result c.from.ensures c.in-Ok.ensures.made
    (c.take_back_all.ensures c.args.model.now c.in-Ok.ensures.made.back)
    c.in-Err.ensures.bridged

pub returns-in-Err-clause-untouched : goal.returns-in-Err-clause-untouched
returns-in-Err-clause-untouched g c =
    group_untouched c.args.model.now c.take_back_all.new.model c.args.lazy.now c.push.new.lazy
    c.make_copies.new.model.model c.in-Err.fault c.from.result _ c.from.ensures
    (c.take_back_all.ensures c.args.model.now c.in-Ok.ensures.made.back)
    c.in-Err.ensures.bridged

pub returns-in-Err-clause-in_step : goal.returns-in-Err-clause-in_step
returns-in-Err-clause-in_step g c =
    group_step c.args.model.now c.take_back_all.new.model c.args.lazy.now c.push.new.lazy
    c.make_copies.new.model.model c.in-Err.fault c.from.result c.from.ensures
    (c.take_back_all.ensures c.args.model.now c.in-Ok.ensures.made.back)
    c.in-Err.ensures.bridged c.requires.stands c.requires.settled

pub returns-in-Err-clause-small : goal.returns-in-Err-clause-small
returns-in-Err-clause-small g c = λ made is small.
    never_grouped c.in-Err.fault c.from.result (Err c.from.result) refl c.from.ensures
    (c.in-Err.ensures.small
    (made_small c.args.model.now c.make_copies.new.model c.args.edits.now c.in-Ok.undos.items made
    c.in-Ok.ensures.made is small))

pub returns-in-Err-clause-few : goal.returns-in-Err-clause-few
returns-in-Err-clause-few g c =
    group_few c.args.lazy.now c.push.new.lazy c.args.lazy.now.bridges.table
    c.make_copies.new.model.model c.in-Err.fault c.from.result c.from.ensures
    c.in-Err.ensures.bridged
