-- An edit that is accepted, and whose model is bridged, is refused for nothing.
use Rattle.std.proofs.Common.{◌≡◌, ℕ, Option, Some, None, refl, sym, ◌∙◌, Ok, Err}
use Rattle.std.proofs.lemmas.Option.{none-some}
use Rattle.bridge_graph.specs.Hypergraph.{IsCostly}
use Rattle.bridged_rows_laws.specs.BridgedRows.{HasFittingBridging, never_overflowing, never_unsupported}
use Rattle.cache_layer.specs.Answers.{IsEdited}
use Rattle.cache_layer.specs.CacheState.{Bridging, CacheState, with_model}
use Rattle.cache_layer.specs.declared.fault.EditFault.{EditFault}
use Rattle.cache_layer.specs.declared.fault.EditFault.TheVariants.{Memory, Overflow, Refused, Unsupported}
use Rattle.fresh_bridging.specs.CanLaws.{AreLawful}
use Rattle.fresh_bridging.specs.TheRules.{graph_of}
use Rattle.item_core.specs.declared.kind.Kind.{Kind}
use Rattle.model_laws.specs.KeptValid.{kept_valid}
use Rattle.report_core.specs.declared.refused.Place.{Place}
use Rattle.user_model.specs.Edited.{edited}
use Rattle.user_model.specs.Refusals.{first_refusal}
use Rattle.user_model.specs.Valid.{IsValid}
use Rattle.user_model.specs.declared.edit.Edit.{Edit}
use Rattle.user_model.specs.declared.refusal.Refusal.{Refusal}

module _ (old : CacheState) (e : Edit) (new : CacheState) (accepted : first_refusal old.model e ≡ None) where
  pub not_refused : (refusal : Refusal) → IsEdited old e (Err (Refused refusal)) new → ⊥
  not_refused refusal h = none-some refusal (sym accepted ∙ h.0)

  -- what an accepted edit leads to
  pub made_of : (count : Option ℕ) → IsEdited old e (Ok count) new
      → new ≡ with_model old (edited old.model e)
  made_of None h = h.1.1
  made_of (Some n) h = h.1.2

  module _ (costly : IsCostly (graph_of old.setting)) (lawful : AreLawful old.setting)
      (valid : IsValid old.model) (b : Bridging (with_model old (edited old.model e))) where
    bridged : HasFittingBridging old.setting (edited old.model e)
    bridged = record { bridging = b.bridging; made = b.made }

    pub not_unsupported : (kind : Kind) → IsEdited old e (Err (Unsupported kind)) new → ⊥
    not_unsupported kind h =
        never_unsupported old.setting costly lawful (edited old.model e) bridged
        (kept_valid old.model e valid accepted) kind h.1.1

    pub not_overflowing : (place : Place) → IsEdited old e (Err (Overflow place)) new → ⊥
    not_overflowing place h =
        never_overflowing old.setting costly lawful (edited old.model e) bridged h.1.1.bridging
        h.1.1.at h.1.1.unfit

    -- so only memory may run out
    pub out_of_memory : (fault : EditFault) → IsEdited old e (Err fault) new → fault ≡ Memory
    out_of_memory (Refused refusal) h = absurd (not_refused refusal h)
    out_of_memory (Unsupported kind) h = absurd (not_unsupported kind h)
    out_of_memory (Overflow place) h = absurd (not_overflowing place h)
    out_of_memory Memory h = refl
