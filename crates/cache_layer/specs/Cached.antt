-- What contracts see of a cache: the user's model, the lazy bridging, and whether a solver is
-- attached. While one is, the fresh bridging of the user's model stands in the lazy bridging, and
-- while none is, nothing does.
use Rattle.std.specs.Prelude.{◌≡◌, Bool, true, false, [], refl}
use Rattle.std.specs.Coded.{Coded, code_by, coded×, coded_bool}
use Rattle.lazy_bridge.specs.Owned.{HoldsNothing, IsBridgingOf, Owned, owned_code, setting_in}
use Rattle.model_store.specs.Store.{StoredModel, stored_code}
use Rattle.user_model.specs.Model.{ModelValue}
use Rattle.cache_layer.specs.CacheState.{CacheState}

pub record Cached : Type 0 where
  pub user : StoredModel
  pub lazy : Owned
  pub attached : Bool

abbrev pub cached : StoredModel → Owned → Bool → Cached
cached user lazy attached = record { user = user; lazy = lazy; attached = attached }

abbrev pub cached_code : Coded Cached
cached_code =
    code_by (StoredModel × (Owned × Bool)) (coded× stored_code (coded× owned_code coded_bool))
    (λ c. (c.user, (c.lazy, c.attached))) (λ p. cached p.0 p.1.0 p.1.1) (λ _. refl)

abbrev pub model_in : Cached → ModelValue
model_in cache = cache.user.model

abbrev pub StandsAttached : Bool → Owned → ModelValue → Type 0
StandsAttached true lazy model = IsBridgingOf lazy model
StandsAttached false lazy model = HoldsNothing lazy

-- nothing is left to be taken back
pub record IsCacheInStep (cache : Cached) : Type 0 where
  pub stands : StandsAttached cache.attached cache.lazy cache.user.model
  pub settled : cache.user.parked ≡ []

-- what it is to its user
abbrev pub state_of : Cached → CacheState
state_of cache = record {
  model = cache.user.model;
  setting = setting_in cache.lazy;
  attached = cache.attached;
}
