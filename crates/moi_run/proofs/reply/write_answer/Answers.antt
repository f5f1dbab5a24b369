-- The text that an answer prints was written, or a part of it.
use Rattle.std.proofs.Common.{[], false, true, refl}
use Rattle.edit_engine.specs.Lines.{accepted, quit, refusal, silent}
use Rattle.io_face.specs.SinkLaws.{Adds-empty}
use Rattle.moi_run.proofs.Answering.{cut_short, wrote_whole}
use Rattle.moi_run.proofs.reply.write_answer.Goals as goal
use Rattle.report_core.specs.declared.answer.Answer.TheVariants.{Printed, Quit, Refused, Silent}

pub returns-in-Silent-clause-written : goal.returns-in-Silent-clause-written
returns-in-Silent-clause-written g c =
    let old = g.O.Sink.written c.args.output.now in
    wrote_whole c.args.answer Silent [] [] false false old old c.in-Silent.is silent refl refl
    (Adds-empty old)

pub returns-in-Quit-clause-written : goal.returns-in-Quit-clause-written
returns-in-Quit-clause-written g c =
    let old = g.O.Sink.written c.args.output.now in
    wrote_whole c.args.answer Quit [] [] false true old old c.in-Quit.is quit refl refl
    (Adds-empty old)

pub returns-in-Ok-clause-written : goal.returns-in-Ok-clause-written
returns-in-Ok-clause-written g c =
    wrote_whole c.args.answer (Printed c.in-Printed.text) c.in-Printed.text c.as_slice.result.now
    false false _ _ c.in-Printed.is accepted refl c.as_slice.ensures c.in-Ok.ensures.ok

pub returns-in-Printed-clause-written : goal.returns-in-Printed-clause-written
returns-in-Printed-clause-written g c =
    cut_short c.in-Err.fault c.from.result c.args.answer (Printed c.in-Printed.text)
    c.in-Printed.text c.as_slice.result.now false _ _ c.from.ensures c.in-Printed.is accepted
    c.as_slice.ensures c.in-Err.ensures.err

pub returns-in-Ok-write_all-clause-written : goal.returns-in-Ok-write_all-clause-written
returns-in-Ok-write_all-clause-written g c =
    wrote_whole c.args.answer (Refused c.in-Refused.text) c.in-Refused.text
    c.as_slice-in-Refused.result.now true false _ _ c.in-Refused.is refusal refl
    c.as_slice-in-Refused.ensures c.in-Ok-write_all.ensures.ok

pub returns-in-Refused-clause-written : goal.returns-in-Refused-clause-written
returns-in-Refused-clause-written g c =
    cut_short c.in-Err-write_all.fault c.from-in-Err-write_all.result c.args.answer
    (Refused c.in-Refused.text) c.in-Refused.text c.as_slice-in-Refused.result.now true _ _
    c.from-in-Err-write_all.ensures c.in-Refused.is refusal c.as_slice-in-Refused.ensures
    c.in-Err-write_all.ensures.err
