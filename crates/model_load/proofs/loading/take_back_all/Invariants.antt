use Rattle.std.proofs.Common.{reverse, vec_len}
use Rattle.model_store.specs.Store.{StoredModel}
use Rattle.model_load.specs.Loads.{LeadBack}
use Rattle.model_load.proofs.loading.take_back_all.Given as goal

abbrev pub invariant-loop-undo : goal.invariant-loop-undo
invariant-loop-undo l =
    (start : StoredModel) → LeadBack start (reverse l.initial.undos.items) l.initial.model
    → LeadBack start (reverse l.undos.items) l.model

abbrev pub decreases-loop-undo : goal.decreases-loop-undo
decreases-loop-undo l = vec_len l.undos
