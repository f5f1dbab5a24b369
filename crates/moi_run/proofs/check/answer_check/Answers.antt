-- The verdict was written, or a part of it.
use Rattle.io_face.specs.Told.{told_by}
use Rattle.moi_run.proofs.Answering.{prints_fault, prints_memory}
use Rattle.moi_run.proofs.Exits.{no_end_at_stop, no_usage_at_end, no_usage_at_stop}
use Rattle.moi_run.proofs.Checking.{check_answered, check_stopped, memory_told}
use Rattle.moi_run.proofs.check.answer_check.Goals as goal

pub returns-in-Ok-clause-outcome : goal.returns-in-Ok-clause-outcome
returns-in-Ok-clause-outcome g c =
    check_answered c.in-Ok.reply c.ended.result (told_by (g.H.Shelf.files c.args.shelf.now)
    (g.H.Shelf.sure c.args.shelf.now)) _ _ c.args.model.now c.args.certificate.now
    c.verdict-answer.result c.is_refused.result _ _
    c.ended.ensures c.is_refused.ensures c.verdict-answer.ensures.verdict c.in-Ok.ensures.written

pub returns-in-Err-clause-outcome : goal.returns-in-Err-clause-outcome
returns-in-Err-clause-outcome g c =
    check_stopped c.in-Err.stop c.from.result (told_by (g.H.Shelf.files c.args.shelf.now)
    (g.H.Shelf.sure c.args.shelf.now)) _ _ c.args.model.now c.args.certificate.now
    c.verdict-answer.result _ _
    c.from.ensures c.verdict-answer.ensures.verdict c.verdict-answer.ensures.cause
    c.in-Err.ensures.written

pub returns-in-Ok-clause-not_usage : goal.returns-in-Ok-clause-not_usage
returns-in-Ok-clause-not_usage g c =
    no_usage_at_end c.is_refused.result c.ended.result c.ended.ensures

pub returns-in-Err-clause-not_usage : goal.returns-in-Err-clause-not_usage
returns-in-Err-clause-not_usage g c = no_usage_at_stop c.in-Err.stop c.from.result c.from.ensures

-- ---- the files that were asked for, and no fault where the work ended

pub returns-in-Ok-clause-asks : goal.returns-in-Ok-clause-asks
returns-in-Ok-clause-asks g c _ =
    c.verdict-answer.ensures.asks (prints_memory c.in-Ok.ensures.written.0.prints)

pub returns-in-Err-clause-asks : goal.returns-in-Err-clause-asks
returns-in-Err-clause-asks g c other =
    c.verdict-answer.ensures.asks
    (memory_told c.in-Err.stop c.from.result c.verdict-answer.result _ _ c.from.ensures
    c.in-Err.ensures.written other)

pub returns-in-Ok-clause-sound_fetches : goal.returns-in-Ok-clause-sound_fetches
returns-in-Ok-clause-sound_fetches g c _ =
    c.verdict-answer.ensures.sound (prints_fault c.in-Ok.ensures.written.0.prints)

pub returns-in-Err-clause-sound_fetches : goal.returns-in-Err-clause-sound_fetches
returns-in-Err-clause-sound_fetches g c ended =
    absurd (no_end_at_stop c.in-Err.stop c.from.result c.from.ensures ended)

pub returns-in-Err-clause-sound_writes : goal.returns-in-Err-clause-sound_writes
returns-in-Err-clause-sound_writes g c ended =
    absurd (no_end_at_stop c.in-Err.stop c.from.result c.from.ensures ended)
