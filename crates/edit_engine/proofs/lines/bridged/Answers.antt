use Rattle.std.proofs.Common.{◌≡◌, ap, sym, true, ◌∙◌}
use Rattle.std.specs.Prelude.{Ok}
use Rattle.bridged_report.specs.Lines.{bridged_text}
use Rattle.cache_layer.specs.Cached.{model_in, state_of}
use Rattle.lazy_bridge.specs.Owned.{Owned, leaf_model_in}
use Rattle.model_store.specs.Store.{StoredModel}
use Rattle.report_core.specs.declared.answer.Answer.TheVariants.{Printed}
use Rattle.edit_engine.proofs.Shown.{bridging_there, stands_there, text_there}
use Rattle.edit_engine.proofs.Steps.{shows}
use Rattle.edit_engine.proofs.lines.bridged.Goals as goal

pub returns : goal.returns
returns g c =
    let cache = c.args.cache.now in
    let on : cache.attached ≡ true = sym c.attached.ensures.value ∙ c.if-not-attached.false in
    let stands = stands_there cache on c.attached.ensures.stands in
    shows cache.attached (state_of cache) (Ok (Printed c.in_ok-text.text)) on
    (bridging_there cache stands)
    (ap Printed (text_there cache stands c.in_ok-text.text
    (c.in_ok-text.ensures
    ∙ ap (λ (u : StoredModel). bridged_text u.model (leaf_model_in c.lazy.result.now))
    c.model.ensures.value
    ∙ ap (λ (l : Owned). bridged_text (model_in cache) (leaf_model_in l)) c.lazy.ensures)))
