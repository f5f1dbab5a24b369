use Rattle.std.proofs.Common.{◌≡◌, drop, not}
use Rattle.std.specs.List.{list_any}
use Rattle.user_model.specs.Refusals.{has_variable_named}
use Rattle.model_refusals.proofs.lookups.has_unknown_name.Given as goal

-- all variables so far stand in the model
abbrev pub invariant-loop-place : goal.invariant-loop-place
invariant-loop-place l =
    list_any (λ name. not (has_variable_named l.model.model name)) (drop l.place l.names)
    ≡ list_any (λ name. not (has_variable_named l.model.model name)) l.names
