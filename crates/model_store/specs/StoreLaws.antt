-- The entries that are left where the last is taken out.
use Rattle.std.specs.Prelude.{◌≡◌, List}
use Rattle.std.proofs.Common.{sym, ◌∙◌}
use Rattle.std.proofs.lemmas.List.{same_from_push}
use Rattle.user_model.specs.declared.undo.Undo.{Undo}
use Rattle.user_model.specs.Model.{ModelValue}
use Rattle.model_store.specs.declared.parked.Parked.{Parked}
use Rattle.model_store.specs.Store.{HasParked, IsButLast}

-- the entries that are left are those before the last was parked
pub left_front : (shorter longer left : List Parked) (model : ModelValue) (undo : Undo)
    → HasParked shorter longer model undo → IsButLast left longer → left ≡ shorter
left_front shorter longer left model undo h but =
    (same_from_push left shorter but.0 h.entry (sym but.1 ∙ h.last)).0
