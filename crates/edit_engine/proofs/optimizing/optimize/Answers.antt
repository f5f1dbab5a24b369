use Rattle.std.proofs.Common.{refl, subst}
use Rattle.std.specs.Prelude.{◌≡◌, IfOk}
use Rattle.cache_layer.specs.Cached.{state_of}
use Rattle.cache_layer.specs.Outcome.{IsOptimized}
use Rattle.certificates.specs.Good.{Good}
use Rattle.model_store.specs.Store.{StoredModel}
use Rattle.edit_engine.specs.Script.{optimize_answer}
use Rattle.edit_engine.proofs.Steps.{told}
use Rattle.edit_engine.proofs.optimizing.optimize.Goals as goal

pub returns : goal.returns
returns g c =
    let s = state_of c.args.cache.now in
    told (optimize_answer s.model)
    (λ given new. IsOptimized s c.args.pivots given × IfOk given (Good s.model) × (new ≡ s)) s s
    c.optimize-made.result c.tell.result
    (c.optimize-made.ensures.outcome, c.optimize-made.ensures.good, refl)
    (subst (λ (u : StoredModel). IfOk c.tell.result (λ answer.
    answer ≡ optimize_answer u.model c.optimize-made.result)) c.model.ensures.value c.tell.ensures)
