use Rattle.model_load.proofs.Stepping.{load_made, load_unmade}
use Rattle.model_load.specs.LoadsLaws.{made_waits}
use Rattle.model_load.proofs.loading.load_all.Goals as goal

pub settle_all-requires : goal.settle_all-requires
settle_all-requires c = (
  c.args.model.now.parked,
  made_waits c.args.model.now c.make_all.new.model c.args.edits.items c.in-Ok.undos.items
      c.in-Ok.ensures.made,
)

pub returns-in-Ok : goal.returns-in-Ok
returns-in-Ok c =
    load_made c.args.model.now c.make_all.new.model c.settle_all.new.model c.args.edits.items
    c.in-Ok.undos.items c.in-Ok.ensures.made c.settle_all.ensures.model
    (c.settle_all.ensures.parked c.args.model.now.parked
    (made_waits c.args.model.now c.make_all.new.model c.args.edits.items c.in-Ok.undos.items
    c.in-Ok.ensures.made))

pub returns-in-Err : goal.returns-in-Err
returns-in-Err c =
    load_unmade c.args.model.now c.make_all.new.model c.args.edits.items c.in-Err.unmade
    c.from.result c.from.ensures c.in-Err.ensures.unmade c.in-Err.ensures.kept
