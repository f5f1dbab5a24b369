-- What the shelf gave, and what was answered to it.
use Rattle.std.proofs.Common.{Err, ap, refl, subst}
use Rattle.file_answers.specs.AskingLaws.{on_ok}
use Rattle.io_face.specs.Shelf.{Gives}
use Rattle.io_face.specs.Told.{told_by}
use Rattle.io_face.specs.ToldLaws.{asked_for}
use Rattle.io_face.specs.declared.shelf.FetchFault.TheVariants.{Failed, TooLong}
use Rattle.certificate_check.proofs.Judged.{judged_text}
use Rattle.certificate_check.proofs.judging.judge_file.Goals as goal

pub returns-in-Ok-clause-verdict : goal.returns-in-Ok-clause-verdict
returns-in-Ok-clause-verdict g c =
    judged_text (told_by (g.H.Shelf.files c.args.shelf.now) (g.H.Shelf.sure c.args.shelf.now))
    c.args.model.now.model c.text.result.now c.args.certificate.now c.deref.result.now
    c.fetch.new.into.items c.judge_text.result
    c.text.ensures.value c.deref.ensures.value c.in-Ok.ensures.ok c.in-Ok.ensures.within
    c.judge_text.ensures.verdict

pub returns-in-Err-Failed-clause-verdict : goal.returns-in-Err-Failed-clause-verdict
returns-in-Err-Failed-clause-verdict g c = (
  Err Failed,
  λ sure. subst (λ name. Gives (g.H.Shelf.files c.args.shelf.now) name (Err Failed))
      c.text.ensures.value (c.in-Err-Failed.ensures.missing
      (ap Err c.in-Err-Failed.field-0-is) sure),
  refl,
)

pub returns-in-Err-TooLong-clause-verdict : goal.returns-in-Err-TooLong-clause-verdict
returns-in-Err-TooLong-clause-verdict g c = (
  Err TooLong,
  subst (λ name. Gives (g.H.Shelf.files c.args.shelf.now) name (Err TooLong)) c.text.ensures.value
      (c.in-Err-TooLong.ensures.too_long (ap Err c.in-Err-TooLong.field-0-is)),
  refl,
)

pub returns-in-Ok-clause-asks : goal.returns-in-Ok-clause-asks
returns-in-Ok-clause-asks g c =
    on_ok c.judge_text.result _ (asked_for _ _ c.text.result.now c.args.certificate.now
    c.text.ensures.value (c.fetch.ensures.asks (λ e. cc (c.in-Ok.is, e))))

pub returns-in-Err-Failed-clause-asks : goal.returns-in-Err-Failed-clause-asks
returns-in-Err-Failed-clause-asks g c =
    asked_for _ _ c.text.result.now c.args.certificate.now c.text.ensures.value
    (c.fetch.ensures.asks (λ e. cc (c.in-Err-Failed.is, c.in-Err-Failed.field-0-is, e)))

pub returns-in-Err-TooLong-clause-asks : goal.returns-in-Err-TooLong-clause-asks
returns-in-Err-TooLong-clause-asks g c =
    asked_for _ _ c.text.result.now c.args.certificate.now c.text.ensures.value
    (c.fetch.ensures.asks (λ e. cc (c.in-Err-TooLong.is, c.in-Err-TooLong.field-0-is, e)))
