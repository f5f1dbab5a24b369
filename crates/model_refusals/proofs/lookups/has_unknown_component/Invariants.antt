use Rattle.std.proofs.Common.{◌≡◌, drop, not}
use Rattle.std.specs.List.{flat_map, list_any}
use Rattle.user_model.specs.Functions.{names_of}
use Rattle.user_model.specs.Refusals.{has_variable_named}
use Rattle.model_refusals.proofs.lookups.has_unknown_component.Given as goal

-- all variables of the components so far stand in the model
abbrev pub invariant-loop-place : goal.invariant-loop-place
invariant-loop-place l =
    list_any (λ name. not (has_variable_named l.model.model name))
    (flat_map names_of (drop l.place l.funcs))
    ≡ list_any (λ name. not (has_variable_named l.model.model name)) (flat_map names_of l.funcs)
