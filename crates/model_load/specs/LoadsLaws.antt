-- What waits of edits that were made, and what stands once they are kept.
use Rattle.std.specs.Prelude.{◌≡◌, List, [], ◌∷◌, Ok, reverse}
use Rattle.std.proofs.Common.{ap, sym, ◌∙◌}
use Rattle.model_store.specs.Store.{StoredModel}
use Rattle.user_model.specs.declared.edit.Edit.{Edit}
use Rattle.user_model.specs.declared.undo.Undo.{Undo}
use Rattle.model_load.specs.Loads.{AreEditsMade, AreKept, AreParkedFor, LeadBack}

waits : (start now : StoredModel) (undos : List Undo) → LeadBack start undos now
    → AreParkedFor start.parked undos now.parked
waits start now [] h = ap (λ (s : StoredModel). s.parked) h
waits start now (undo ∷ undos) h =
    (h.0.parked, waits start h.0 undos h.1, (now.model, h.2.parked))

pub made_waits : (start now : StoredModel) (edits : List Edit) (undos : List Undo)
    → AreEditsMade start edits undos now → AreParkedFor start.parked (reverse undos) now.parked
made_waits start now edits undos h = waits start now (reverse undos) h.back

pub kept_made : (start now new : StoredModel) (edits : List Edit) (undos : List Undo)
    → AreEditsMade start edits undos now → new.model ≡ now.model → new.parked ≡ start.parked
    → AreKept start edits new
kept_made start now new edits undos h model parked =
    record { made = h.made ∙ ap Ok (sym model); settled = parked }
