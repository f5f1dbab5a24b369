use Rattle.std.proofs.Common.{◌≡◌, drop}
use Rattle.std.specs.List.{list_any}
use Rattle.user_model.specs.Refusals.{has_variable_named}
use Rattle.model_refusals.proofs.lookups.has_known.Given as goal

-- no name so far is a variable's
abbrev pub invariant-loop-place : goal.invariant-loop-place
invariant-loop-place l =
    list_any (has_variable_named l.model.model) (drop l.place l.names) ≡ list_any
    (has_variable_named l.model.model) l.names
