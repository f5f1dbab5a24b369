-- Attaching a solver leaves the model.
use Rattle.std.specs.Prelude.{◌≡◌, ℕ, Result, Ok, Err}
use Rattle.std.proofs.Common.{ap}
use Rattle.cache_layer.specs.Answers.{IsAttached}
use Rattle.cache_layer.specs.CacheState.{CacheState}
use Rattle.cache_layer.specs.declared.fault.AttachFault.{AttachFault}
use Rattle.cache_layer.specs.declared.fault.AttachFault.TheVariants as attach

pub attached_model : (made : Result ℕ AttachFault) (old new : CacheState) → IsAttached old made new
    → new.model ≡ old.model
attached_model (Ok leaves) old new h = ap (λ (s : CacheState). s.model) h.2
attached_model (Err attach.AlreadyAttached) old new h = ap (λ (s : CacheState). s.model) h.1
attached_model (Err (attach.Unsupported kind)) old new h = ap (λ (s : CacheState). s.model) h.2
attached_model (Err (attach.Overflow place)) old new h = ap (λ (s : CacheState). s.model) h.2
attached_model (Err attach.Memory) old new h = ap (λ (s : CacheState). s.model) h.1
