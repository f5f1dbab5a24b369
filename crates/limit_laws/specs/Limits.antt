-- Edits of a model that are refused for nothing but a limit of models.
use Rattle.std.specs.Prelude.{◌≡◌, List, Err}
use Rattle.model_load.specs.Loads.{after_edits}
use Rattle.user_model.specs.Model.{ModelValue}
use Rattle.user_model.specs.declared.edit.Edit.{Edit}
use Rattle.user_model.specs.declared.refusal.Refusal.{Refusal}
use Rattle.user_model.specs.declared.refusal.Refusal.TheVariants.{Full}

-- a count is above its limit
abbrev pub IsFull : Refusal → Type 0
IsFull (Full count limit) = Unit {0}
IsFull _ = ⊥

-- where one of the edits is refused, a limit is exceeded
abbrev pub LimitsAlone : ModelValue → List Edit → Type 0
LimitsAlone model edits =
    (refusal : Refusal) → after_edits model edits ≡ Err refusal → IsFull refusal
