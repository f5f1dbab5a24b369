use Rattle.std.proofs.Common.{subst}
use Rattle.io_face.specs.Told.{told_by}
use Rattle.file_command.proofs.Loaded.{loads_fault, loads_made, never_read}
use Rattle.file_command.proofs.loading.model_of.Goals as goal
use Rattle.file_command.specs.Loading.{MakesStored}
use Rattle.model_load.specs.Loads.{after_edits}
use Rattle.user_model.specs.Model.{empty_model}

pub returns-in-Ok-clause-loads : goal.returns-in-Ok-clause-loads
returns-in-Ok-clause-loads g c =
    loads_made (told_by (g.H.Shelf.files c.args.shelf.now) (g.H.Shelf.sure c.args.shelf.now))
    c.args.name.now c.in-Ok.edits c.model_by.result c.in-Ok.ensures.read
    (subst (λ es. MakesStored (after_edits empty_model es) c.model_by.result) c.into_vec.ensures
    c.model_by.ensures)

pub returns-in-Ok-clause-cause : goal.returns-in-Ok-clause-cause
returns-in-Ok-clause-cause g c = λ e.
    absurd (never_read (after_edits empty_model c.into_vec.result.items) c.model_by.result
    c.model_by.ensures e)

pub returns-in-Err-clause-loads : goal.returns-in-Err-clause-loads
returns-in-Err-clause-loads g c =
    loads_fault (told_by (g.H.Shelf.files c.args.shelf.now) (g.H.Shelf.sure c.args.shelf.now))
    c.args.name.now c.in-Err.fault c.tell_fault.result c.unwrap_or.result c.in-Err.ensures.read
    c.tell_fault.ensures.answer c.unwrap_or.ensures
