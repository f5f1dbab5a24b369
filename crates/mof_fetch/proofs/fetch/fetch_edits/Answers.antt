use Rattle.std.proofs.Common.{Err, refl}
use Rattle.io_face.specs.declared.shelf.FetchFault.TheVariants as fetch
use Rattle.io_face.specs.ToldLaws.{asked_for}
use Rattle.mof_fetch.proofs.Reading.{failed_to_fetch, fetched_whole, found_too_long}
use Rattle.mof_fetch.proofs.fetch.fetch_edits.Goals as goal

pub returns-in-Ok-clause-read : goal.returns-in-Ok-clause-read
returns-in-Ok-clause-read g c =
    fetched_whole (g.H.Shelf.files c.args.shelf.now) (g.H.Shelf.sure c.args.shelf.now)
    c.text.result.now c.args.name.now c.fetch.new.into.items c.deref.result.now
    c.read_edits.result c.text.ensures.value c.deref.ensures.value c.in-Ok.ensures.ok
    c.in-Ok.ensures.within c.read_edits.ensures.read

pub returns-in-Err-Failed-clause-read : goal.returns-in-Err-Failed-clause-read
returns-in-Err-Failed-clause-read g c =
    failed_to_fetch (g.H.Shelf.files c.args.shelf.now) (g.H.Shelf.sure c.args.shelf.now)
    c.text.result.now c.args.name.now c.text.ensures.value
    (c.fetch.ensures.missing (cc (c.in-Err-Failed.is, c.in-Err-Failed.field-0-is)))

pub returns-in-Err-TooLong-clause-read : goal.returns-in-Err-TooLong-clause-read
returns-in-Err-TooLong-clause-read g c =
    found_too_long (g.H.Shelf.files c.args.shelf.now) (g.H.Shelf.sure c.args.shelf.now)
    c.text.result.now c.args.name.now c.text.ensures.value
    (c.fetch.ensures.too_long (cc (c.in-Err-TooLong.is, c.in-Err-TooLong.field-0-is)))

pub returns-clause-read : goal.returns-clause-read
returns-clause-read g c = (Err fetch.Memory, tt, refl)

pub returns-in-Ok-clause-asks : goal.returns-in-Ok-clause-asks
returns-in-Ok-clause-asks g c _ =
    asked_for _ _ c.text.result.now c.args.name.now c.text.ensures.value
    (c.fetch.ensures.asks (λ e. cc (c.in-Ok.is, e)))

pub returns-in-Err-Failed-clause-asks : goal.returns-in-Err-Failed-clause-asks
returns-in-Err-Failed-clause-asks g c _ =
    asked_for _ _ c.text.result.now c.args.name.now c.text.ensures.value
    (c.fetch.ensures.asks (λ e. cc (c.in-Err-Failed.is, c.in-Err-Failed.field-0-is, e)))

pub returns-in-Err-TooLong-clause-asks : goal.returns-in-Err-TooLong-clause-asks
returns-in-Err-TooLong-clause-asks g c _ =
    asked_for _ _ c.text.result.now c.args.name.now c.text.ensures.value
    (c.fetch.ensures.asks (λ e. cc (c.in-Err-TooLong.is, c.in-Err-TooLong.field-0-is, e)))

pub returns-in-Err-TooLong-clause-sound : goal.returns-in-Err-TooLong-clause-sound
returns-in-Err-TooLong-clause-sound g c _ =
    c.fetch.ensures.sound (λ e. cc (c.in-Err-TooLong.is, c.in-Err-TooLong.field-0-is, e))
