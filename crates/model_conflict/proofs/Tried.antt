-- A row was tried: it is left out, or it is needed and added again; or a call failed.
use Rattle.std.proofs.Common.{◌≡◌, ℕ, List, [], ◌∷◌, ap, length, subst, sym, true, ◌∙◌, Ok, Err}
use Rattle.std.specs.Prelude.{All, IfErr, IfOk, IsErrAnd, OnOk, Result}
use Rattle.std.proofs.lemmas.List.Elements.{All-head}
use Rattle.cache_layer.specs.Cached.{Cached, StandsAttached, model_in, state_of}
use Rattle.cache_layer.specs.Outcome.{IsOptimized}
use Rattle.cache_layer.specs.CacheState.{Bridging, CacheState}
use Rattle.cache_layer.specs.declared.fault.OptFault.{OptFault}
use Rattle.cache_layer.specs.declared.fault.OptFault.TheVariants as fault
use Rattle.certificates.specs.declared.certificate.Certificate.TheVariants.{Optimal}
use Rattle.lazy_bridge.specs.Owned.{IsBridgingOf}
use Rattle.lists.specs.declared.memory.Memory.{Memory}
use Rattle.model_conflict.specs.Optima.{TellsOptimum}
use Rattle.model_conflict.specs.Steps.{IsTrialOf, IsFirstRow, Tries, left_out, needed, with_needed}
use Rattle.model_conflict.specs.Walk.{GivesGood, infeasible_by, with_last, with_rows}
use Rattle.model_conflict.specs.declared.optimizing.Duals.{Duals}
use Rattle.model_conflict.specs.declared.optimizing.Optimum.TheVariants as optimum
use Rattle.model_conflict.specs.declared.trials.Trial.{Trial}
use Rattle.model_conflict.specs.declared.trials.Walked.{Walked}
use Rattle.model_store.specs.Store.{StoredModel}
use Rattle.ratio_core.specs.Rational.{Rational}
use Rattle.user_model.specs.Model.{ModelValue}
use Rattle.user_model.specs.Valid.{IsValid, IsValidRow}
use Rattle.user_model.specs.declared.objective.Objective.TheVariants.{Feasibility}
use Rattle.user_model.specs.declared.row.Row.{Row}

-- ---- a fault that is handed on

pub handed_on : {A : Type 0} (Q : Result A OptFault → Type 0) (r : Result A OptFault)
    (why : OptFault) → IsErrAnd r (λ e. e ≡ why) → Q (Err why) → Q r
handed_on Q (Ok a) why h told = absurd h
handed_on Q (Err e) why h told = subst (λ f. Q (Err f)) (sym h) told

-- running out of memory
pub memory_on : {A : Type 0} (Q : Result A OptFault → Type 0) (r : Result A OptFault)
    (why : OptFault) → why ≡ fault.Memory → IsErrAnd r (λ e. e ≡ why) → Q (Err fault.Memory)
    → Q r
memory_on Q r why is h told = handed_on Q r why h (subst (λ w. Q (Err w)) (sym is) told)

-- what follows of a call that worked
pub on_ok : {A B P Q : Type 0} (r : Result A B) → (P → Q) → OnOk r P → OnOk r Q
on_ok (Ok a) more h = more h
on_ok (Err b) more h = h

-- ---- what is there

-- while a solver is attached, the bridging stands
pub bridging_here : (cache : Cached) → cache.attached ≡ true
    → StandsAttached cache.attached cache.lazy (model_in cache) → Bridging (state_of cache)
bridging_here cache is h =
    let there : IsBridgingOf cache.lazy (model_in cache) =
    subst (λ attached. StandsAttached attached cache.lazy (model_in cache)) is h in
    record { bridging = there.bridging; made = there.made }

-- the trial of the first row
pub trial_here : (user said : StoredModel) (row found : Row) (result : Result Trial Memory)
    → said ≡ user → found ≡ row → IfOk result (IsTrialOf said.model found)
    → IfOk result (IsTrialOf user.model row)
trial_here user said row found result is same h =
    subst (λ r. IfOk result (IsTrialOf user.model r)) same
    (subst (λ (u : StoredModel). IfOk result (IsTrialOf u.model found)) is h)

pub stands_in : (user said : StoredModel) (row : Row) (rest : List Row) → said ≡ user
    → IsFirstRow user.model row rest → IsFirstRow said.model row rest
stands_in user said row rest is h =
    subst (λ (u : StoredModel). IsFirstRow u.model row rest) (sym is) h

pub first_in : (user said : StoredModel) → said ≡ user
    → (row : Row) × (rest : List Row) × IsFirstRow user.model row rest
    → (row : Row) × (rest : List Row) × IsFirstRow said.model row rest
first_in user said is h =
    (h.0, h.1, subst (λ (u : StoredModel). IsFirstRow u.model h.0 h.1) (sym is) h.2)

pub valid_in : (user said : StoredModel) → said ≡ user → IsValid said.model → IsValid user.model
valid_in user said is h = subst (λ (u : StoredModel). IsValid u.model) is h

-- how many rows there are
pub count_is : (user said : StoredModel) (items : List Row) (n : ℕ) → n ≡ length items
    → items ≡ said.model.rows → said ≡ user → n ≡ length user.model.rows
count_is user said items n count rows is =
    count ∙ ap length rows ∙ ap (λ (u : StoredModel). length u.model.rows) is

pub none_is_first : (items rest : List Row) (row : Row) → items ≡ [] → items ≡ row ∷ rest → ⊥
none_is_first items rest row e h = cc

pub valid_first : (model : ModelValue) → IsValid model → (found : Row) (others : List Row)
    → model.rows ≡ found ∷ others → IsValidRow model.groups found
valid_first model valid found others whole =
    All-head (IsValidRow model.groups) found others
    (subst (All (IsValidRow model.groups)) whole valid.parts.valid_rows)

-- ---- states of a walk

module _ (s : CacheState) (row : Row) (rest : List Row) (now : CacheState) (is : now ≡ with_rows s rest) where
  pub still_attached : s.attached ≡ true → now.attached ≡ true
  still_attached h = ap (λ (t : CacheState). t.attached) is ∙ h

  pub still_bare : s.model.objective ≡ Feasibility → now.model.objective ≡ Feasibility
  still_bare h = ap (λ (t : CacheState). t.model.objective) is ∙ h

  module _ (pivots : ℕ) (was : Walked) where
    pub fault_tried : (why : OptFault) (new : CacheState) (after : Walked)
        → TellsOptimum now pivots (Err why) → Tries s pivots row rest was (Err why) new after
    fault_tried (fault.TooLarge cells) new after h =
        subst (λ t. IsOptimized t pivots (Err (fault.TooLarge cells))) is h
    fault_tried (fault.Overflow place) new after h =
        subst (λ t. IsOptimized t pivots (Err (fault.Overflow place))) is h
    fault_tried (fault.Limit n) new after h =
        subst (λ t. IsOptimized t pivots (Err (fault.Limit n))) is h
    fault_tried fault.NotAttached new after h = absurd h
    fault_tried fault.Memory new after h = tt

    pub out_tried : (duals : Duals) (after : Walked) → GivesGood now pivots (infeasible_by duals)
        → after ≡ record was { duals = duals } → Tries s pivots row rest was (Ok tt) now after
    out_tried duals after gives same =
        left_out duals (subst (λ t. GivesGood t pivots (infeasible_by duals)) is gives) is same

    pub again_tried : (x : List Rational) (name : List ℕ) (result : Result Unit OptFault)
        (new : CacheState) (after : Walked) → TellsOptimum now pivots (Ok (optimum.Point x))
        → name ≡ row.name → OnOk result (new ≡ with_last (with_rows s rest) row)
        → OnOk result (after ≡ with_needed was name x) → IfErr result (λ why. why ≡ fault.Memory)
        → Tries s pivots row rest was result new after
    again_tried x name (Ok done) new after h named state noted err =
        needed h.0 x h.1 h.2 (subst (λ t. GivesGood t pivots (Optimal h.0 x h.1 h.2)) is h.3) state
        (noted ∙ ap (λ n. with_needed was n x) named)
    again_tried x name (Err why) new after h named state noted err =
        subst (λ w. Tries s pivots row rest was (Err w) new after) (sym err) tt
