use Rattle.std.proofs.Common.{◌≡◌, map, take}
use Rattle.user_model.specs.Model.{address_named}
use Rattle.model_plans.proofs.located.located_terms.Given as goal

abbrev pub invariant-loop-term : goal.invariant-loop-term
invariant-loop-term l =
    l.located.items ≡ map (λ t. (address_named l.model.model t.variable, t.coefficient))
    (take l.term-index l.terms)
