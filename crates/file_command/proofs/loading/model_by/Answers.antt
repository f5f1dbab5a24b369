use Rattle.std.proofs.Common.{refl}
use Rattle.file_command.proofs.Loaded.{made_here, none_here}
use Rattle.file_command.proofs.loading.model_by.Goals as goal

pub returns-in-Ok : goal.returns-in-Ok
returns-in-Ok c =
    made_here c.new-model.result c.make_all.new.model c.args.edits.items c.args.edits.items
    c.new-model.ensures.model refl c.new-model.ensures.parked c.in-Ok.ensures

pub returns-in-Err : goal.returns-in-Err
returns-in-Err c =
    none_here c.new-model.result c.make_all.new.model c.args.edits.items c.args.edits.items
    c.new-model.ensures.model refl c.in-Err.answer c.in-Err.ensures
