use Rattle.std.proofs.Common.{Err, ap, subst}
use Rattle.io_face.specs.Told.{MayGive, told_by}
use Rattle.io_face.specs.ToldLaws.{asked_for, may_give}
use Rattle.setmap_command.proofs.Fetched.{fetched_file, read_whole, same_reason}
use Rattle.setmap_command.proofs.answering.fetch_maps.Goals as goal

pub returns-in-Ok-clause-fetches : goal.returns-in-Ok-clause-fetches
returns-in-Ok-clause-fetches g c =
    fetched_file (told_by (g.H.Shelf.files c.args.shelf.now) (g.H.Shelf.sure c.args.shelf.now))
    c.args.name.now c.text.result.now c.fetch.new.into.items c.deref.result.now c.read_maps.result
    c.text.ensures.value c.deref.ensures.value c.in-Ok.ensures.ok c.in-Ok.ensures.within
    c.read_maps.ensures.said c.read_maps.ensures.memory

pub returns-in-Ok-clause-cause : goal.returns-in-Ok-clause-cause
returns-in-Ok-clause-cause g c = λ e.
    absurd (read_whole c.read_maps.result c.read_maps.ensures.memory e)

pub returns-in-Ok-clause-asks : goal.returns-in-Ok-clause-asks
returns-in-Ok-clause-asks g c = λ not.
    asked_for _ _ c.text.result.now c.args.name.now c.text.ensures.value
    (c.fetch.ensures.asks (λ e. cc (c.in-Ok.is, e)))

pub returns-clause-fetches : goal.returns-clause-fetches
returns-clause-fetches g c =
    let files = g.H.Shelf.files c.args.shelf.now in
    let sure = g.H.Shelf.sure c.args.shelf.now in
    subst (λ n. MayGive (told_by files sure) n (Err c.in-Err.fault)) c.text.ensures.value
    (may_give files sure c.text.result.now (Err c.in-Err.fault) c.fetch.new.into.items
    c.in-Err.ensures.ok c.in-Err.ensures.within c.in-Err.ensures.too_long
    c.in-Err.ensures.missing)

pub returns-clause-asks : goal.returns-clause-asks
returns-clause-asks g c = λ not.
    asked_for _ _ c.text.result.now c.args.name.now c.text.ensures.value
    (c.in-Err.ensures.asks (λ e. not (ap Err (same_reason c.in-Err.fault _ e))))
