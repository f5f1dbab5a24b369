use Rattle.std.proofs.Common.{◌≡◌, inr, subst}
use Rattle.io_face.specs.Sink.{AddsPrefix}
use Rattle.bland_run.specs.Reading.{form_in}
use Rattle.bland_run.proofs.Replies.{begun, said_of}
use Rattle.bland_run.proofs.running.answer.Goals as goal

pub returns-in-Ok-write_all-clause-prefix : goal.returns-in-Ok-write_all-clause-prefix
returns-in-Ok-write_all-clause-prefix g c =
    let old = g.O.Sink.written c.args.output.now in
    let new = g.O.Sink.written c.write_all.new.output in
    let same : c.deref.result.now ≡ c.in-Ok.reply.text.items = cc in
    inr (
      c.in-Ok.reply.is_refusal,
      said_of (form_in c.args.text.now) c.in-Ok.reply.is_refusal c.in-Ok.reply.text.items
          (AddsPrefix old new) c.in-Ok.ensures
          (subst (AddsPrefix old new) same
          (begun old new c.deref.result.now c.in-Ok-write_all.ensures.ok)),
    )

pub returns-clause-prefix : goal.returns-clause-prefix
returns-clause-prefix g c =
    let old = g.O.Sink.written c.args.output.now in
    let new = g.O.Sink.written c.write_all.new.output in
    let same : c.deref.result.now ≡ c.in-Ok.reply.text.items = cc in
    inr (
      c.in-Ok.reply.is_refusal,
      said_of (form_in c.args.text.now) c.in-Ok.reply.is_refusal c.in-Ok.reply.text.items
          (AddsPrefix old new) c.in-Ok.ensures
          (subst (AddsPrefix old new) same c.in-Err.ensures.err),
    )
