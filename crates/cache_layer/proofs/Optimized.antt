-- What an optimise answers, by what the calls under it tell.
use Rattle.std.specs.Prelude.{◌≡◌, ℕ, Bool, true, None, Result, Ok, Err, is_some, refl}
use Rattle.std.proofs.Common.{ap, subst, sym, true≢false, ◌∙◌}
use Rattle.adjoint_core.specs.CarriedBack.{CarriesAnswerBack}
use Rattle.adjoint_core.specs.declared.fault.BackFault.{BackFault}
use Rattle.adjoint_core.specs.declared.fault.BackFault.TheVariants as back
use Rattle.address_map.specs.AddressMap.{AddressMap}
use Rattle.aff_core.specs.Address.{Address}
use Rattle.bridged_report.specs.Places.{place_at}
use Rattle.certificates.specs.declared.certificate.Certificate.{Certificate}
use Rattle.equality_form.specs.ReadBack.{AnswerByAddress}
use Rattle.lazy_bridge.specs.Owned.{IsBridgingOf, Owned, leaf_model_in}
use Rattle.fresh_bridging.specs.FreshBridging.{FreshBridging}
use Rattle.fresh_bridging.specs.TheRules.{Setting}
use Rattle.leaf_model.specs.ReadThrough.{read_through}
use Rattle.model_store.specs.Store.{StoredModel}
use Rattle.solver_store.specs.SolverModel as stored
use Rattle.solver_store.specs.declared.answer.LeafAnswer.{LeafAnswer}
use Rattle.std_form.specs.Readable.{IsReadable}
use Rattle.cache_layer.specs.Cached.{cached, state_of}
use Rattle.user_model.specs.Model.{ModelValue}
use Rattle.cache_layer.specs.Bridging.{state_by}
use Rattle.cache_layer.specs.Optimizing.{CanTell, TellsCertificate, TellsFault, TellsLeaf}
use Rattle.cache_layer.specs.Outcome.{IsOptimized, IsReadBackAs, Outcome, Stops, answered, at_carrying_back, stopped}
use Rattle.cache_layer.specs.CacheState.{Bridging}
use Rattle.cache_layer.specs.declared.fault.OptFault.{OptFault}
use Rattle.cache_layer.specs.declared.fault.OptFault.TheVariants.{Limit, Memory, NotAttached, Overflow, TooLarge}

module _ (lazy : Owned) (model : ModelValue) (stands : IsBridgingOf lazy model) (pivots : ℕ) where
  abbrev the_bridging : Bridging (state_by lazy lazy.bridges.table model)
  the_bridging = record { bridging = stands.bridging; made = stands.made }

  abbrev Optimizes : Result Certificate OptFault → Type 0
  Optimizes result = IsOptimized (state_by lazy lazy.bridges.table model) pivots result

  stopped_here : (fault : OptFault) → Stops (leaf_model_in lazy) pivots fault
      → (b : Bridging (state_by lazy lazy.bridges.table model)) × Outcome b pivots (Err fault)
  stopped_here fault h =
      (the_bridging, stopped (subst (λ l. Stops l pivots fault) stands.leaves h))

  pub is_stopped : (map : AddressMap) (fault : OptFault)
      → TellsLeaf map (leaf_model_in lazy) pivots (Err fault) → Optimizes (Err fault)
  is_stopped map NotAttached h = absurd h
  is_stopped map Memory h = refl
  is_stopped map (TooLarge cells) h = (refl, stopped_here (TooLarge cells) h)
  is_stopped map (Overflow place) h = (refl, stopped_here (Overflow place) h)
  is_stopped map (Limit n) h = (refl, stopped_here (Limit n) h)

  pub is_carried : (answer : AnswerByAddress) → IsReadBackAs (leaf_model_in lazy) pivots answer
      → (result : Result Certificate OptFault) → TellsCertificate stands.bridging answer result
      → Optimizes result
  is_carried answer is (Ok c) told =
      let here = subst (λ l. IsReadBackAs l pivots answer) stands.leaves is in (
        refl,
        (
          the_bridging,
          subst (λ r. Outcome the_bridging pivots (Ok r)) (sym told.1)
              (answered answer here told.0),
        ),
      )
  is_carried answer is (Err (Overflow place)) told =
      let here = subst (λ l. IsReadBackAs l pivots answer) stands.leaves is in
      (refl, (the_bridging, at_carrying_back answer told.0 here told.1 told.2))
  is_carried answer is (Err Memory) told = refl
  is_carried answer is (Err NotAttached) told = absurd told
  is_carried answer is (Err (TooLarge cells)) told = absurd told
  is_carried answer is (Err (Limit n)) told = absurd told

-- ---- carrying back

-- what the call below tells, with the place in place of the address
pub certificate_told : {setting : Setting} {model : ModelValue}
    (bridging : FreshBridging setting model)
    (answer : AnswerByAddress) (c : Certificate) → CarriesAnswerBack bridging answer (Ok c)
    → TellsCertificate bridging answer (Ok c)
certificate_told bridging answer c told = told

pub fault_told : {setting : Setting} {model : ModelValue} (bridging : FreshBridging setting model)
    (answer : AnswerByAddress) (fault : BackFault) (told : OptFault)
    → CarriesAnswerBack bridging answer (Err fault) → TellsFault model fault told
    → TellsCertificate bridging answer (Err told)
fault_told bridging answer (back.Overflow at) (Overflow place) is h = (at, is, h)
fault_told bridging answer (back.Overflow at) Memory is h = tt
fault_told bridging answer (back.Overflow at) NotAttached is h = absurd h
fault_told bridging answer (back.Overflow at) (TooLarge cells) is h = absurd h
fault_told bridging answer (back.Overflow at) (Limit n) is h = absurd h
fault_told bridging answer back.Memory Memory is h = tt
fault_told bridging answer back.Memory NotAttached is h = absurd h
fault_told bridging answer back.Memory (TooLarge cells) is h = absurd h
fault_told bridging answer back.Memory (Overflow place) is h = absurd h
fault_told bridging answer back.Memory (Limit n) is h = absurd h

-- an overflow is always told
pub always_told : (model : ModelValue) (fault : BackFault) (at : Address) → fault ≡ back.Overflow at
    → CanTell model fault → place_at model at ≡ None → ⊥
always_told model fault at is can missing =
    true≢false (sym (subst (CanTell model) is can) ∙ ap is_some missing)

-- ---- while a solver is attached

pub optimized_there : (user : StoredModel) (lazy : Owned) (attached : Bool) (pivots : ℕ)
    (result : Result Certificate OptFault) → attached ≡ true
    → IsOptimized (state_by lazy lazy.bridges.table user.model) pivots result
    → IsOptimized (state_of (cached user lazy attached)) pivots result
optimized_there user lazy attached pivots result on h =
    subst (λ a. IsOptimized (state_of (cached user lazy a)) pivots result) (sym on) h

-- what is said of the leaves through a map and a solver's model which are the bridging's
pub told_here : (lazy : Owned) (places : AddressMap) (solver : stored.StoredLeaves) (pivots : ℕ)
    (result : Result LeafAnswer OptFault) → places ≡ lazy.map → solver ≡ lazy.solver
    → IsReadable lazy.map lazy.solver.leaves
    → ((at : Address) → IsReadable places solver.leaves
    → TellsLeaf places (read_through places solver.leaves at) pivots result)
    → TellsLeaf lazy.map (leaf_model_in lazy) pivots result
told_here lazy places solver pivots result there same readable told =
    subst (λ (m : AddressMap). Tells m lazy.solver) there
    (subst (λ (s : stored.StoredLeaves). Tells places s) same (told lazy.objective_at)) readable
  where
    Tells : AddressMap → stored.StoredLeaves → Type 0
    Tells m s = IsReadable m s.leaves
        → TellsLeaf m (read_through m s.leaves lazy.objective_at) pivots result
