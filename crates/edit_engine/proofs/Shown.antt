-- What an attached solver holds, as text.
use Rattle.std.specs.Prelude.{◌≡◌, ℕ, Bool, true, false, List, Result, IfOk}
use Rattle.std.proofs.Common.{sym, ap, subst, ◌∙◌, true≢false}
use Rattle.lists.specs.declared.memory.Memory.{Memory}
use Rattle.address_map.specs.AddressMap.{AddressMap}
use Rattle.aff_core.specs.Address.{Address}
use Rattle.bridged_report.specs.Lines.{bridged_text}
use Rattle.cache_layer.specs.Cached.{Cached, StandsAttached, model_in, state_of}
use Rattle.cache_layer.specs.CacheState.{Bridging, leaves}
use Rattle.lazy_bridge.specs.Owned.{IsBridgingOf, Owned, leaf_model_in}
use Rattle.leaf_model.specs.ReadThrough.{read_through}
use Rattle.solver_store.specs.SolverModel.{StoredLeaves}
use Rattle.std_form.specs.Readable.{IsReadable}
use Rattle.user_model.specs.Model.{ModelValue}

-- the text that is read through a map and a solver's model which are the bridging's
pub read_here : (lazy : Owned) (model : ModelValue) (map : AddressMap) (solver : StoredLeaves)
    (result : Result (List ℕ) Memory) → map ≡ lazy.map → solver ≡ lazy.solver
    → IsReadable lazy.map lazy.solver.leaves
    → ((at : Address) → IsReadable map solver.leaves → IfOk result (λ text.
    text ≡ bridged_text model (read_through map solver.leaves at)))
    → IfOk result (λ text. text ≡ bridged_text model (leaf_model_in lazy))
read_here lazy model map solver result same_map same_solver readable read =
    subst (λ (m : AddressMap). Reads m lazy.solver) same_map
    (subst (λ (s : StoredLeaves). Reads map s) same_solver (read lazy.objective_at)) readable
  where
    Reads : AddressMap → StoredLeaves → Type 0
    Reads m s = IsReadable m s.leaves → IfOk result (λ text.
        text ≡ bridged_text model (read_through m s.leaves lazy.objective_at))

-- while a solver is attached
pub stands_there : (cache : Cached) → cache.attached ≡ true
    → StandsAttached cache.attached cache.lazy (model_in cache)
    → IsBridgingOf cache.lazy (model_in cache)
stands_there cache e h = by cache.attached e h
  where
    by : (b : Bool) → b ≡ true → StandsAttached b cache.lazy (model_in cache)
        → IsBridgingOf cache.lazy (model_in cache)
    by true e h = h
    by false e h = absurd (true≢false (sym e))

pub bridging_there : (cache : Cached) → IsBridgingOf cache.lazy (model_in cache)
    → Bridging (state_of cache)
bridging_there cache h = record { bridging = h.bridging; made = h.made }

pub text_there : (cache : Cached) (h : IsBridgingOf cache.lazy (model_in cache)) (text : List ℕ)
    → text ≡ bridged_text (model_in cache) (leaf_model_in cache.lazy)
    → text ≡ bridged_text (model_in cache) (leaves (bridging_there cache h))
unfolding bridging_there
text_there cache h text is = is ∙ ap (bridged_text (model_in cache)) h.leaves
