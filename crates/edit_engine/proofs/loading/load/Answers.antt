-- For which files the shelf is asked.
use Rattle.std.proofs.Common.{ap, refl, sym, ◌∙◌}
use Rattle.model_store.specs.Store.{StoredModel}
use Rattle.edit_engine.proofs.Asking.{asks_attached, asks_bare, asks_full}
use Rattle.file_answers.specs.AskingLaws.{on_fault, on_ok}
use Rattle.edit_engine.specs.Bare.{is_bare}
use Rattle.edit_engine.proofs.loading.load.Goals as goal
use Rattle.edit_engine.proofs.FewTold.{few_stays}

pub returns-then-attached-clause-asks : goal.returns-then-attached-clause-asks
returns-then-attached-clause-asks g c =
    on_ok c.refuse.result _
    (asks_attached (g.H.Shelf.asked c.args.shelf.now) c.args.cache.now.attached
    (is_bare c.args.cache.now.user.model) c.args.name.now
    (sym c.attached.ensures.value ∙ c.if-attached.true))

pub returns-then-not-is_bare-clause-asks : goal.returns-then-not-is_bare-clause-asks
returns-then-not-is_bare-clause-asks g c =
    on_ok c.refuse-then-not-is_bare.result _
    (asks_full (g.H.Shelf.asked c.args.shelf.now) c.args.cache.now.attached
    (is_bare c.args.cache.now.user.model) c.args.name.now
    (sym (ap (λ (u : StoredModel). is_bare u.model) c.model.ensures.value) ∙ sym c.is_bare.ensures
    ∙ c.if-not-is_bare.true))

pub returns-in-Ok-clause-asks : goal.returns-in-Ok-clause-asks
returns-in-Ok-clause-asks g c =
    on_ok c.make_all.result _
    (asks_bare (g.H.Shelf.asked c.args.shelf.now) (g.H.Shelf.asked c.fetch_edits.new.shelf)
    c.args.cache.now.attached (is_bare c.args.cache.now.user.model) c.args.name.now
    (sym c.attached.ensures.value ∙ c.if-attached.false)
    (sym (ap (λ (u : StoredModel). is_bare u.model) c.model.ensures.value) ∙ sym c.is_bare.ensures
    ∙ c.if-not-is_bare.false)
    (c.fetch_edits.ensures.asks (λ e. cc (c.in-Ok.is, e))))

pub returns-in-Err-clause-asks : goal.returns-in-Err-clause-asks
returns-in-Err-clause-asks g c =
    on_fault c.in-Err.fault c.tell_fault.result _ c.tell_fault.ensures.memory
    (λ other. asks_bare (g.H.Shelf.asked c.args.shelf.now) (g.H.Shelf.asked c.fetch_edits.new.shelf)
    c.args.cache.now.attached (is_bare c.args.cache.now.user.model) c.args.name.now
    (sym c.attached.ensures.value ∙ c.if-attached.false)
    (sym (ap (λ (u : StoredModel). is_bare u.model) c.model.ensures.value) ∙ sym c.is_bare.ensures
    ∙ c.if-not-is_bare.false)
    (c.fetch_edits.ensures.asks (λ e. other (cc (c.in-Err.is, e)))))

pub returns-in-Err-clause-sound : goal.returns-in-Err-clause-sound
returns-in-Err-clause-sound g c = λ other.
    c.fetch_edits.ensures.sound
    (λ e. other (c.tell_fault.ensures.failed (cc (c.in-Err.is, e))))

-- ---- no call is made

pub returns-then-attached-clause-few : goal.returns-then-attached-clause-few
returns-then-attached-clause-few g c =
    few_stays c.refuse.result c.args.cache.now.lazy c.args.cache.now.lazy refl

pub returns-then-not-is_bare-clause-few : goal.returns-then-not-is_bare-clause-few
returns-then-not-is_bare-clause-few g c =
    few_stays c.refuse-then-not-is_bare.result c.args.cache.now.lazy c.args.cache.now.lazy refl

pub returns-in-Err-clause-few : goal.returns-in-Err-clause-few
returns-in-Err-clause-few g c =
    few_stays c.tell_fault.result c.args.cache.now.lazy c.args.cache.now.lazy refl
