use Rattle.std.proofs.Common.{Err, ap, sym, ◌∙◌}
use Rattle.std.specs.Prelude as prelude
use Rattle.io_face.specs.Told.{told_by}
use Rattle.map_file.specs.declared.file.MapFile.{MapFile}
use Rattle.model_command.specs.Alone.{standard_by}
use Rattle.setmap_command.proofs.Fetched.{never_so, same_reason, says_fetched, told_failed}
use Rattle.setmap_command.proofs.answering.answer_on.Goals as goal
use Rattle.setmap_command.specs.Files.{fetch_answer}

pub returns-in-Ok-clause-says : goal.returns-in-Ok-clause-says
returns-in-Ok-clause-says g c =
    says_fetched (standard_by (prelude.map g.B.Bridge.state c.args.bridges.items))
    (told_by (g.H.Shelf.files c.args.shelf.now) (g.H.Shelf.sure c.args.shelf.now))
    c.args.maps.now c.in-Ok.file c.args.model.model c.answer_maps.result c.unwrap_or.result
    c.in-Ok.ensures.fetches c.answer_maps.ensures.says c.unwrap_or.ensures

pub returns-in-Ok-clause-cause : goal.returns-in-Ok-clause-cause
returns-in-Ok-clause-cause g c = λ e.
    absurd (never_so c.answer_maps.result c.unwrap_or.result c.unwrap_or.ensures
    c.answer_maps.ensures.no_fault e)

pub returns-in-Ok-clause-sound : goal.returns-in-Ok-clause-sound
returns-in-Ok-clause-sound g c = λ not. c.fetch_maps.ensures.sound (λ e. cc (c.in-Ok.is, e))

pub returns-in-Ok-clause-asks : goal.returns-in-Ok-clause-asks
returns-in-Ok-clause-asks g c = λ not. c.fetch_maps.ensures.asks (λ e. cc (c.in-Ok.is, e))

pub returns-in-Err-clause-says : goal.returns-in-Err-clause-says
returns-in-Err-clause-says g c = λ not.
    (Err c.in-Err.fault, c.in-Err.ensures.fetches, c.tell_fetch.ensures)

pub returns-in-Err-clause-cause : goal.returns-in-Err-clause-cause
returns-in-Err-clause-cause g c = λ e.
    c.in-Err.ensures.cause (ap Err (told_failed c.in-Err.fault (sym c.tell_fetch.ensures ∙ e)))

pub returns-in-Err-clause-sound : goal.returns-in-Err-clause-sound
returns-in-Err-clause-sound g c = λ not.
    c.in-Err.ensures.sound (λ e. not (c.tell_fetch.ensures
    ∙ ap fetch_answer (same_reason {A = MapFile} c.in-Err.fault _ e)))

pub returns-in-Err-clause-asks : goal.returns-in-Err-clause-asks
returns-in-Err-clause-asks g c = λ not.
    c.in-Err.ensures.asks (λ e. not (c.tell_fetch.ensures
    ∙ ap fetch_answer (same_reason {A = MapFile} c.in-Err.fault _ e)))
