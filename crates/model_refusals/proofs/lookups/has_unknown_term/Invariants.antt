use Rattle.std.proofs.Common.{◌≡◌, map, drop, not}
use Rattle.std.specs.List.{list_any}
use Rattle.user_model.specs.Refusals.{has_variable_named}
use Rattle.model_refusals.proofs.lookups.has_unknown_term.Given as goal

-- all variables so far stand in the model
abbrev pub invariant-loop-term : goal.invariant-loop-term
invariant-loop-term l =
    list_any (λ name. not (has_variable_named l.model.model name))
    (map (λ t. t.variable) (drop l.term-index l.terms))
    ≡ list_any (λ name. not (has_variable_named l.model.model name)) (map (λ t. t.variable) l.terms)
