use Rattle.model_load.specs.LoadsLaws.{kept_made, made_waits}
use Rattle.cache_layer.proofs.groups.group_alone.Goals as goal

pub settle_all-requires : goal.settle_all-requires
settle_all-requires c = (
  c.args.model.now.parked,
  made_waits c.args.model.now c.make_copies.new.model c.args.edits.now c.in_ok-undos.undos.items
      c.in_ok-undos.ensures.made,
)

pub returns-clause-made : goal.returns-clause-made
returns-clause-made c =
    kept_made c.args.model.now c.make_copies.new.model c.settle_all.new.model c.args.edits.now
    c.in_ok-undos.undos.items c.in_ok-undos.ensures.made c.settle_all.ensures.model
    (c.settle_all.ensures.parked c.args.model.now.parked
    (made_waits c.args.model.now c.make_copies.new.model c.args.edits.now
    c.in_ok-undos.undos.items c.in_ok-undos.ensures.made))
