-- Undos in the order in which the edits were made lead back from their model.
use Rattle.std.specs.Prelude.{List, [], ◌∷◌, ◌++◌, reverse, refl}
use Rattle.std.proofs.Common.{ap, sym, subst}
use Rattle.std.proofs.lemmas.List.{reverse-append, reverse-reverse}
use Rattle.local_laws.specs.Unlisted.{LeadBackTo}
use Rattle.model_load.specs.Loads.{LeadBack}
use Rattle.model_store.specs.Store.{StoredModel}
use Rattle.user_model.specs.Model.{ModelValue}
use Rattle.user_model.specs.Undone.{IsUndo}
use Rattle.user_model.specs.declared.undo.Undo.{Undo}

-- one more behind the others
led_further : (start now new : ModelValue) (undos : List Undo) (undo : Undo)
    → LeadBackTo start undos now → IsUndo now new undo → LeadBackTo start (undos ++ undo ∷ []) new
led_further start now new [] undo h is =
    (new, subst (λ m. IsUndo m new undo) (sym h) is, refl)
led_further start now new (u ∷ undos) undo h is =
    (h.0, h.1, led_further h.0 now new undos undo h.2 is)

led_back : (start now : StoredModel) (undos : List Undo) → LeadBack start undos now
    → LeadBackTo start.model (reverse undos) now.model
led_back start now [] h = ap (λ (s : StoredModel). s.model) (sym h)
led_back start now (undo ∷ undos) h =
    subst (λ us. LeadBackTo start.model us now.model) (sym (reverse-append (undo ∷ []) undos))
    (led_further start.model h.0.model now.model (reverse undos) undo (led_back start h.0 undos h.1)
    h.2.lists)

pub lead_to : (start now : StoredModel) (undos : List Undo) → LeadBack start (reverse undos) now
    → LeadBackTo start.model undos now.model
lead_to start now undos h =
    subst (λ us. LeadBackTo start.model us now.model) (reverse-reverse undos)
    (led_back start now (reverse undos) h)
