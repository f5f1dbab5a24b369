-- For which files the shelf is asked.
use Rattle.file_answers.specs.AskingLaws.{on_fault}
use Rattle.io_face.specs.Told.{told_by}
use Rattle.certificate_check.proofs.Asking.{asks_both, asks_one}
use Rattle.certificate_check.proofs.judging.judge_model.Goals as goal

pub returns-in-Ok-clause-asks : goal.returns-in-Ok-clause-asks
returns-in-Ok-clause-asks g c =
    asks_both (told_by (g.H.Shelf.files c.args.shelf.now) (g.H.Shelf.sure c.args.shelf.now))
    c.args.model.now c.args.certificate.now (g.H.Shelf.asked c.args.shelf.now)
    (g.H.Shelf.asked c.fetch_edits.new.shelf) (g.H.Shelf.asked c.judge_edits.new.shelf)
    c.in-Ok.edits c.judge_edits.result c.in-Ok.ensures.read
    (c.fetch_edits.ensures.asks (λ e. cc (c.in-Ok.is, e))) c.judge_edits.ensures.asks

pub returns-in-Err-clause-asks : goal.returns-in-Err-clause-asks
returns-in-Err-clause-asks g c =
    on_fault c.in-Err.fault c.tell_fault.result _ c.tell_fault.ensures.memory
    (λ other. asks_one
    (told_by (g.H.Shelf.files c.args.shelf.now) (g.H.Shelf.sure c.args.shelf.now))
    c.args.model.now c.args.certificate.now (g.H.Shelf.asked c.args.shelf.now)
    (g.H.Shelf.asked c.fetch_edits.new.shelf) c.in-Err.fault c.in-Err.ensures.read
    (c.fetch_edits.ensures.asks (λ e. other (cc (c.in-Err.is, e)))))
